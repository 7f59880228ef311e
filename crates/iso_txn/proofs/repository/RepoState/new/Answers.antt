use Rattle.iso_txn.proofs.Holding.{holds_none}
use Rattle.iso_txn.proofs.repository.RepoState.new.Goals as goal

pub invariant_of-result : goal.invariant_of-result
invariant_of-result c = holds_none c.args.limits c.requires.limits c.new-2.result c.in_ok-new.field-0 c.new-2.ensures c.in_ok-new.ensures
