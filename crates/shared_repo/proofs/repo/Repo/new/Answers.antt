use Rattle.std.proofs.Common.{subst, sym, ◌∙◌}
use Rattle.iso_txn.specs.Repository.{AreAllowed}
use Rattle.shared_repo.proofs.PassLemmas.{first_passes}
use Rattle.shared_repo.proofs.PassLists.{passes_first}
use Rattle.shared_repo.proofs.repo.Repo.new.Goals as goal

pub returns-clause-passes : goal.returns-clause-passes
returns-clause-passes c =
    let made = c.in_ok-lock.ensures in
    first_passes c.legal_in_turn.ensures (record { lock = c.in_ok-lock.lock }) 0 c.in_ok-lock.passes.items
    (subst AreAllowed (sym (made.fixed ∙ c.in_ok-state.ensures.limits)) c.requires.limits) made.passes made.new

pub returns-clause-own : goal.returns-clause-own
returns-clause-own c =
    let made = c.in_ok-lock.ensures in
    passes_first (record { lock = c.in_ok-lock.lock }) 0 c.in_ok-lock.passes.items
    (first_passes c.legal_in_turn.ensures (record { lock = c.in_ok-lock.lock }) 0 c.in_ok-lock.passes.items
    (subst AreAllowed (sym (made.fixed ∙ c.in_ok-state.ensures.limits)) c.requires.limits) made.passes made.new)
