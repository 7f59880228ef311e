use Rattle.std.proofs.Common.{◌≡◌, [], None, length}
use Rattle.std.specs.Option.{option_copied}
use Rattle.api_requests.specs.Tests.{walks}
use Rattle.api_requests.proofs.writes.walks.Given as goal

abbrev pub invariant-loop-change : goal.invariant-loop-change
invariant-loop-change l = walks l.front [] None l.changes ≡ walks l.front l.left (option_copied l.current) l.rest

abbrev pub decreases-loop-change : goal.decreases-loop-change
decreases-loop-change l = length l.rest
