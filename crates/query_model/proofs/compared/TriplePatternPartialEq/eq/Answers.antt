use Rattle.query_model.specs.EqualityLaws.{told, pattern_decides}
use Rattle.query_model.proofs.compared.TriplePatternPartialEq.eq.Goals as goal

pub returns-clause-same : goal.returns-clause-same
returns-clause-same c = told c.is_same.ensures (pattern_decides c.args.self.now c.args.other.now)
