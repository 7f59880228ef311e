use Rattle.std.proofs.Common.{sym, subst, ◌∙◌}
use Rattle.iso_txn.specs.Repository.{IsUnchangedMeanwhile, NoneSerializable}
use Rattle.iso_txn.proofs.WatchCounts.{none_kept, unchanged}
use Rattle.iso_txn.proofs.repository.RepoState.kept_deltas.Goals as goal

pub returns-clause-none : goal.returns-clause-none
returns-clause-none c =
    let s = c.self.inside in
    λ none. c.kept_deltas.ensures ∙ none_kept s.limits s.count s.journal s.state c.self.invariant (subst NoneSerializable (sym c.self.view_is) none)

pub returns-clause-some : goal.returns-clause-some
returns-clause-some c =
    let s = c.self.inside in
    λ none. subst IsUnchangedMeanwhile c.self.view_is (unchanged s.limits s.count s.journal s.state c.self.invariant (sym c.kept_deltas.ensures ∙ none))
