use Rattle.std.proofs.Common.{length}
use Rattle.branch.proofs.counts.+are_matched_in.Given as goal

abbrev pub decreases-are_matched_in : goal.decreases-are_matched_in
decreases-are_matched_in l = length l.layers.now
