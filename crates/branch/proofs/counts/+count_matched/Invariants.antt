use Rattle.std.proofs.Common.{length}
use Rattle.branch.proofs.counts.+count_matched.Given as goal

abbrev pub decreases-count_matched : goal.decreases-count_matched
decreases-count_matched l = length l.removed.now
