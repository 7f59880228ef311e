use Rattle.shared_session.specs.Houses.{House}
use Rattle.shared_session.proofs.HouseLemmas.{limits_in}
use Rattle.shared_session.proofs.house.House.repo.Goals as goal

pub returns-clause-limits : goal.returns-clause-limits
returns-clause-limits c =
    let inside : House = record { names = c.self.inside.catalog.names; limits = c.self.inside.catalog.limits; repos = c.self.inside.repos.items } in
    limits_in inside c.args.self.now c.args.number c.index.result.now c.self.invariant c.self.view_is c.requires c.index.ensures
