use Rattle.std.proofs.Common.{refl, sym, subst}
use Rattle.journal.specs.declared.op.Op.TheVariants.{Step}
use Rattle.journal.specs.declared.entry.Entry.{Entry}
use Rattle.journal.specs.declared.ask.Ask.TheVariants as asks
use Rattle.journal.specs.Journal.{entry_of}
use Rattle.iso_txn.specs.Repository.{Repository}
use Rattle.repo_store.specs.Stores.{IsNextStep}
use Rattle.repo_store.proofs.PinnedLemmas.{next_step_is_pinned, pinned_at, pinned_is_answered}
use Rattle.repo_store.proofs.SeatLemmas.{next_is_next}
use Rattle.repo_store.proofs.sole.SoleRepo.step.Goals as goal

pub returns-clause-pinned : goal.returns-clause-pinned
returns-clause-pinned c =
    let s = c.self.inside.state in
    let is = c.in_ok-step.ensures in
    let next : IsNextStep s 0 c.args.txn c.args.query.now c.args.number c.args.pinned.now =
    subst (λ (repo : Repository). IsNextStep repo 0 c.args.txn c.args.query.now c.args.number c.args.pinned.now) (sym c.self.view_is) c.requires in
    pinned_at s c.step.new.self (entry_of 0 (Step c.args.txn c.args.query.now c.args.number)) c.length-place.result c.step.new.pinned is.journal
    c.length-place.ensures.length
    (next_step_is_pinned s 0 c.args.txn c.args.query.now c.args.number c.args.pinned.now c.step.new.pinned next is.live is.views is.rows)

pub returns-clause-answer : goal.returns-clause-answer
returns-clause-answer c = λ last.
    let s = c.self.inside.state in
    let is = c.in_ok-step.ensures in
    let e : Entry = entry_of 0 (Step c.args.txn c.args.query.now c.args.number) in
    let next : IsNextStep s 0 c.args.txn c.args.query.now c.args.number c.args.pinned.now =
    subst (λ (repo : Repository). IsNextStep repo 0 c.args.txn c.args.query.now c.args.number c.args.pinned.now) (sym c.self.view_is) c.requires in
    pinned_is_answered c.step.new.self c.length-place.result e c.step.new.pinned (asks.Query c.args.query.now)
    (pinned_at s c.step.new.self e c.length-place.result c.step.new.pinned is.journal c.length-place.ensures.length
    (next_step_is_pinned s 0 c.args.txn c.args.query.now c.args.number c.args.pinned.now c.step.new.pinned next is.live is.views is.rows))
    (refl, last)

pub returns-clause-next : goal.returns-clause-next
returns-clause-next c =
    let s = c.self.inside.state in
    let is = c.in_ok-step.ensures in
    let next : IsNextStep s 0 c.args.txn c.args.query.now c.args.number c.args.pinned.now =
    subst (λ (repo : Repository). IsNextStep repo 0 c.args.txn c.args.query.now c.args.number c.args.pinned.now) (sym c.self.view_is) c.requires in
    next_is_next c.each_entry_is_judged_once.ensures s c.step.new.self 0 c.args.txn c.args.query.now c.args.number c.step.new.pinned c.requires.level is.journal
    is.number
    (next_step_is_pinned s 0 c.args.txn c.args.query.now c.args.number c.args.pinned.now c.step.new.pinned next is.live is.views is.rows)
