use Rattle.query_model.specs.EqualityLaws.{told}
use Rattle.journal.specs.EqualityLaws.{names_op_decides}
use Rattle.journal.proofs.compared.NamesOpPartialEq.eq.Goals as goal

pub returns-clause-same : goal.returns-clause-same
returns-clause-same c = told c.is_same.ensures (names_op_decides c.args.self.now c.args.other.now)
