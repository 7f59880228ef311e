use Rattle.std.proofs.Common.{◌≡◌, ◌^◌, ◌-◌, length, min, take}
use Rattle.journal.specs.Found.{matching}
use Rattle.repo_store.specs.Graphs.{in_each}
use Rattle.repo_store.proofs.ListLemmas.{every}
use Rattle.repo_store.proofs.size.in_each.Given as goal

abbrev pub invariant-loop-graph : goal.invariant-loop-graph
invariant-loop-graph l = l.count ≡ min (length (matching (in_each every (take l.graph-index l.graphs)) l.view.quads)) (2 ^ 64 - 1)
