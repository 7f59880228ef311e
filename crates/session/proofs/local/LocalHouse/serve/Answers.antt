use Rattle.std.proofs.Common.{rules}
use Rattle.session.specs.Houses.{house_journals, journals_of}
use Rattle.session.proofs.GrowthLemmas.{grow_alone}
use Rattle.session.proofs.HouseLemmas.{all_own}
use Rattle.session.proofs.local.LocalHouse.serve.Goals as goal

pub returns-clause-own : goal.returns-clause-own
returns-clause-own g c = all_own _ _ _ c.serve.ensures.pass.0

pub returns-clause-grow : goal.returns-clause-grow
returns-clause-grow g c =
    grow_alone (house_journals c.args.self.now) (journals_of c.serve.new.pass.items) c.serve.result.marks.items (search rules)
    (λ repo. (all_own _ _ _ c.serve.ensures.pass.0 repo).seats)
