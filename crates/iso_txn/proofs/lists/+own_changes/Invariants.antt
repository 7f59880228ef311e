use Rattle.std.proofs.Common.{length}
use Rattle.iso_txn.proofs.lists.+own_changes.Given as goal

abbrev pub decreases-own_changes : goal.decreases-own_changes
decreases-own_changes l = length l.writes.now
