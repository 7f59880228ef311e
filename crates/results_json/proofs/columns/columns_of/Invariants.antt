use Rattle.std.proofs.Common.{◌≡◌, ◌≤◌, drop, length}
use Rattle.results_json.specs.Columns.{named, columns_from}
use Rattle.results_json.proofs.columns.columns_of.Given as goal

abbrev pub invariant-loop-place : goal.invariant-loop-place
invariant-loop-place l = (l.place ≤ length l.names) × (named l.columns.entries ≡ columns_from l.place (drop l.place l.names))

abbrev pub decreases-loop-place : goal.decreases-loop-place
decreases-loop-place l = l.place
