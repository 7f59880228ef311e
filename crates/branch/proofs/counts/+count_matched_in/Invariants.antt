use Rattle.std.proofs.Common.{length}
use Rattle.branch.proofs.counts.+count_matched_in.Given as goal

abbrev pub decreases-count_matched_in : goal.decreases-count_matched_in
decreases-count_matched_in l = length l.layers.now
