use Rattle.std.proofs.Common.{◌≡◌, length}
use Rattle.api_requests.specs.Tests.{are_apart}
use Rattle.api_requests.proofs.writes.are_apart.Given as goal

abbrev pub invariant-loop-change : goal.invariant-loop-change
invariant-loop-change l = are_apart l.changes ≡ are_apart l.left

abbrev pub decreases-loop-change : goal.decreases-loop-change
decreases-loop-change l = length l.left
