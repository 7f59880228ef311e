use Rattle.std.proofs.Common.{◌≡◌, ◌++◌, length}
use Rattle.api_requests.specs.Requests.{context_pairs}
use Rattle.api_requests.proofs.pairs.put_contexts.Given as goal

abbrev pub invariant-loop-graph : goal.invariant-loop-graph
invariant-loop-graph l = l.pairs ++ context_pairs l.left ≡ l.fn.pairs ++ context_pairs l.fn.graphs

abbrev pub decreases-loop-graph : goal.decreases-loop-graph
decreases-loop-graph l = length l.left
