use Rattle.std.proofs.Common.{◌≡◌, ◌++◌, length}
use Rattle.api_requests.specs.Changes.{graphs_in}
use Rattle.api_requests.specs.Requests.{context_pairs}
use Rattle.api_requests.proofs.pairs.put_picks.Given as goal

abbrev pub invariant-loop-change : goal.invariant-loop-change
invariant-loop-change l = l.pairs ++ context_pairs (graphs_in l.left) ≡ l.fn.pairs ++ context_pairs (graphs_in l.fn.changes)

abbrev pub decreases-loop-change : goal.decreases-loop-change
decreases-loop-change l = length l.left
