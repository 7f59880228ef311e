use Rattle.journal.specs.declared.op.Op.TheVariants.{Read}
use Rattle.api_calls.specs.declared.call.Call.TheVariants.{On}
use Rattle.session.proofs.EnterLemmas.{entered_pin, pin_full, pin_gone}
use Rattle.session.proofs.enter.enter_pin.Goals as goal

pub returns-in-Ok-clause-entered : goal.returns-in-Ok-clause-entered
returns-in-Ok-clause-entered g c = λ id form.
    entered_pin (g.T.Store.names c.args.store.now) (g.T.Store.limits c.args.store.now) (g.T.Store.seats c.args.pass.now) (g.T.Store.journals c.args.pass.now) (g.T.Store.journals c.pin.new.pass)
    c.args.repo id c.args.txn c.args.ask.now form c.args.marks.now.items c.push_reserved.new.self.items c.in-Ok.place c.in-Ok.pinned c.requires.one
    c.in-Ok.ensures.made.0 c.in-Ok.ensures.made.1 c.push_reserved.ensures.items

pub returns-in-Err-JournalFull-clause-entered : goal.returns-in-Err-JournalFull-clause-entered
returns-in-Err-JournalFull-clause-entered g c = λ id form.
    pin_full (g.T.Store.names c.args.store.now) (g.T.Store.limits c.args.store.now) (g.T.Store.seats c.args.pass.now) (g.T.Store.journals c.args.pass.now) (g.T.Store.journals c.pin.new.pass)
    c.args.repo id (Read c.args.txn c.args.ask.now) form c.args.marks.now.items c.requires.one (rw c.in-Err-JournalFull.field-0-is at c.in-Err-JournalFull.ensures.fault)

pub returns-in-Err-Memory-clause-entered : goal.returns-in-Err-Memory-clause-entered
returns-in-Err-Memory-clause-entered g c = λ id form.
    pin_gone (g.T.Store.names c.args.store.now) (g.T.Store.limits c.args.store.now) (g.T.Store.seats c.args.pass.now) (g.T.Store.journals c.args.pass.now) (g.T.Store.journals c.pin.new.pass)
    c.args.repo (On id (Read c.args.txn c.args.ask.now) form) c.args.marks.now.items c.in-Err-Memory.ensures.fault.moves
