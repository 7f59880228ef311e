use Rattle.query_model.specs.EqualityLaws.{told}
use Rattle.journal.specs.EqualityLaws.{entry_decides}
use Rattle.journal.proofs.compared.EntryPartialEq.eq.Goals as goal

pub returns-clause-same : goal.returns-clause-same
returns-clause-same c = told c.is_same.ensures (entry_decides c.args.self.now c.args.other.now)
