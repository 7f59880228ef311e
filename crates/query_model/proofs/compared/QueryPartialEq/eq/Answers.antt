use Rattle.query_model.specs.EqualityLaws.{told, query_decides}
use Rattle.query_model.proofs.compared.QueryPartialEq.eq.Goals as goal

pub returns-clause-same : goal.returns-clause-same
returns-clause-same c = told c.is_same.ensures (query_decides c.args.self.now c.args.other.now)
