use Rattle.session.proofs.HouseLemmas.{are_new, none_entered}
use Rattle.session.proofs.local.LocalHouse.new.Goals as goal

pub invariant_of-result : goal.invariant_of-result
invariant_of-result c =
    rw (c.in_ok-catalog.ensures.names, c.in_ok-catalog.ensures.limits, c.in_ok-repos.ensures) (are_new c.args.limits c.args.ids.now)

pub returns-clause-journals : goal.returns-clause-journals
returns-clause-journals c = λ repo. rw c.in_ok-repos.ensures (none_entered c.args.limits c.args.ids.now repo)
