use Rattle.std.proofs.Common.{◌≡◌, ◌++◌, length}
use Rattle.api_requests.specs.Changes.{every}
use Rattle.api_requests.proofs.documents.every.Given as goal

abbrev pub invariant-loop-quad : goal.invariant-loop-quad
invariant-loop-quad l = l.quads ++ every l.count l.skipped l.left ≡ every l.count 0 l.fn.all

abbrev pub decreases-loop-quad : goal.decreases-loop-quad
decreases-loop-quad l = length l.left
