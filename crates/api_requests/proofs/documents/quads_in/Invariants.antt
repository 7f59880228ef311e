use Rattle.std.proofs.Common.{◌≡◌, ◌++◌, length}
use Rattle.api_requests.specs.Changes.{quads_in}
use Rattle.api_requests.proofs.documents.quads_in.Given as goal

abbrev pub invariant-loop-change : goal.invariant-loop-change
invariant-loop-change l = l.quads ++ quads_in l.left ≡ quads_in l.changes

abbrev pub decreases-loop-change : goal.decreases-loop-change
decreases-loop-change l = length l.left
