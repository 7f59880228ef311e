use Rattle.std.proofs.Common.{length}
use Rattle.branch.proofs.layers.+pile_up.Given as goal

abbrev pub decreases-pile_up : goal.decreases-pile_up
decreases-pile_up l = length l.layers.now
