use Rattle.std.proofs.Common.{length, refl}
use Rattle.journal.specs.declared.ask.Ask.TheVariants as asks
use Rattle.journal.specs.declared.entry.Entry.{Entry}
use Rattle.journal.specs.declared.op.Op.TheVariants.{Step}
use Rattle.journal.specs.Journal.{entry_of, judged}
use Rattle.iso_txn.specs.Repository.{Repository}
use Rattle.repo_store.specs.Stores.{IsPinnedAt, IsPinnedBy}
use Rattle.repo_store.proofs.PinnedLemmas.{next_step_is_pinned, pinned_at}
use Rattle.repo_store.proofs.SeatLemmas.{next_is_next}
use Rattle.shared_repo.proofs.kinds.StepCall.run.Goals as goal

pub returns-clause-answer : goal.returns-clause-answer
returns-clause-answer c =
    let s : Repository = c.args.state.now in
    let call = c.args.self.now in
    let is = c.in_ok-step.ensures in
    let e : Entry = entry_of c.args.seat (Step call.txn call.query.now call.number) in
    let by : IsPinnedBy s.limits (judged s.limits s.journal) e c.step.new.pinned =
    next_step_is_pinned s c.args.seat call.txn call.query.now call.number c.args.pinned.now c.step.new.pinned c.requires is.live is.views is.rows in
    let at : IsPinnedAt c.step.new.self (length s.journal) e c.step.new.pinned =
    pinned_at s c.step.new.self e (length s.journal) c.step.new.pinned is.journal refl by in (
      at,
      λ last. c.pinned_is_answered.ensures c.step.new.self (length s.journal) e c.step.new.pinned (asks.Query call.query.now) at (refl, last),
      λ below. next_is_next c.each_entry_is_judged_once.ensures s c.step.new.self c.args.seat call.txn call.query.now call.number c.step.new.pinned c.requires.level
          is.journal is.number by below,
    )
