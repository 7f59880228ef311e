use Rattle.query_model.specs.EqualityLaws.{told, found_decides}
use Rattle.query_model.proofs.compared.FoundPartialEq.eq.Goals as goal

pub returns-clause-same : goal.returns-clause-same
returns-clause-same c = told c.is_same.ensures (found_decides c.args.self.now c.args.other.now)
