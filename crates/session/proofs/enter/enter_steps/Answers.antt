use Rattle.std.proofs.Common.{refl, ◌∙◌, arith}
use Rattle.session.proofs.StepLemmas.{stepped_none, stepped_more, stepped_all, stepped_full, stepped_gone}
use Rattle.session.proofs.enter.enter_steps.Goals as goal

pub loop-number-init : goal.loop-number-init
loop-number-init g c = record {
  serves = c.requires.serves;
  seats = refl;
  stepped = stepped_none (g.T.Store.limits c.args.store.now) (g.T.Store.seats c.args.pass.now) (g.T.Store.journals c.args.pass.now) c.args.repo c.args.txn c.args.query.now c.args.marks.now.items c.empty-pinned.result;
  first = λ none. c.empty-pinned.ensures;
  later = λ some less. absurd (omega (arith, some));
  room = omega (arith, c.requires.room, c.requires.most, c.lookups_of-count.ensures);
  few = omega arith;
}

pub returns-in-Err-JournalFull-clause-entered : goal.returns-in-Err-JournalFull-clause-entered
returns-in-Err-JournalFull-clause-entered g c = λ id form.
    stepped_full (g.T.Store.names c.args.store.now) (g.T.Store.limits c.args.store.now) (g.T.Store.seats c.args.pass.now) (g.T.Store.journals c.args.pass.now) (g.T.Store.journals c.loop-number.pass) (g.T.Store.journals c.step.new.pass)
    c.args.repo id c.args.txn c.args.query.now form c.loop-number.number c.args.marks.now.items c.loop-number.marks.items c.loop-number.pinned c.loop-number.invariant.stepped c.requires.level
    (omega (arith, c.loop-number-test.true, c.lookups_of-count.ensures, c.requires.most))
    (rw c.loop-number.invariant.seats at (rw c.in-Err-JournalFull.field-0-is at c.in-Err-JournalFull.ensures.fault))

pub returns-in-Err-Memory-clause-entered : goal.returns-in-Err-Memory-clause-entered
returns-in-Err-Memory-clause-entered g c = λ id form.
    stepped_gone c.reply_reads_no_later_entry.ensures (g.T.Store.names c.args.store.now) (g.T.Store.limits c.args.store.now) (g.T.Store.seats c.args.pass.now) (g.T.Store.journals c.args.pass.now) (g.T.Store.journals c.loop-number.pass) (g.T.Store.journals c.step.new.pass)
    c.args.repo id c.args.txn c.args.query.now form c.loop-number.number c.args.marks.now.items c.loop-number.marks.items c.loop-number.pinned c.loop-number.invariant.stepped c.requires.level
    (omega (arith, c.loop-number-test.true, c.lookups_of-count.ensures, c.requires.most))
    (rw c.loop-number.invariant.seats at c.in-Err-Memory.ensures.fault.moves)

pub loop-number-preserved : goal.loop-number-preserved
loop-number-preserved g c = record {
  serves = c.in-Ok.ensures.pass.0;
  seats = c.in-Ok.ensures.pass.1 ∙ c.loop-number.invariant.seats;
  stepped = stepped_more (g.T.Store.limits c.args.store.now) (g.T.Store.seats c.args.pass.now) (g.T.Store.journals c.args.pass.now) (g.T.Store.journals c.loop-number.pass) (g.T.Store.journals c.step.new.pass)
      c.args.repo c.args.txn c.args.query.now c.loop-number.number c.in-Ok.place c.args.marks.now.items c.loop-number.marks.items c.push_reserved.new.self.items c.loop-number.pinned c.step.new.pinned
      c.loop-number.invariant.stepped (rw c.loop-number.invariant.seats at c.in-Ok.ensures.made) c.in-Ok.ensures.last c.push_reserved.ensures.items;
  first = λ none. absurd (omega (arith, none));
  later = λ some less. c.in-Ok.ensures.next less;
  room = omega (arith, c.push_reserved.ensures.len, c.push_reserved.ensures.capacity, c.loop-number.invariant.room, c.loop-number-test.true);
  few = omega (arith, c.push_reserved.ensures.len, c.loop-number.invariant.few);
}

pub returns-clause-entered : goal.returns-clause-entered
returns-clause-entered g c = λ id form.
    stepped_all (g.T.Store.names c.args.store.now) (g.T.Store.limits c.args.store.now) (g.T.Store.seats c.args.pass.now) (g.T.Store.journals c.args.pass.now) (g.T.Store.journals c.loop-number.pass)
    c.args.repo id c.args.txn c.args.query.now form c.loop-number.number c.args.marks.now.items c.loop-number.marks.items c.loop-number.pinned c.loop-number.invariant.stepped c.requires.level
    (omega (arith, c.loop-number-test.false, c.lookups_of-count.ensures, c.requires.most, c.loop-number.auto.number-end))

pub step-requires-clause-later : goal.step-requires-clause-later
step-requires-clause-later g c = λ some.
    c.loop-number.invariant.later some (omega (arith, c.loop-number-test.true, c.lookups_of-count.ensures, c.requires.most))
