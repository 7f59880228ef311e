use Rattle.std.proofs.Common.{length, refl}
use Rattle.journal.specs.declared.entry.Entry.{Entry}
use Rattle.journal.specs.declared.op.Op.TheVariants.{Read}
use Rattle.journal.specs.Journal.{entry_of}
use Rattle.iso_txn.specs.Repository.{Repository}
use Rattle.repo_store.specs.Stores.{IsPinnedAt}
use Rattle.repo_store.proofs.PinnedLemmas.{pinned_at, read_is_pinned}
use Rattle.shared_repo.proofs.kinds.PinCall.run.Goals as goal

pub returns-clause-answer : goal.returns-clause-answer
returns-clause-answer c =
    let s : Repository = c.args.state.now in
    let call = c.args.self.now in
    let is = c.in_ok-pinned.ensures in
    let e : Entry = entry_of c.args.seat (Read call.txn call.ask.now) in
    let at : IsPinnedAt c.pin_read.new.self (length s.journal) e c.in_ok-pinned.pinned =
    pinned_at s c.pin_read.new.self e (length s.journal) c.in_ok-pinned.pinned is.journal refl
    (read_is_pinned s.limits s.journal c.args.seat call.txn call.ask.now c.in_ok-pinned.pinned is.live is.views is.rows) in
    (at, c.pinned_is_answered.ensures c.pin_read.new.self (length s.journal) e c.in_ok-pinned.pinned call.ask.now at refl)
