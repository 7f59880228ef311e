use Rattle.std.proofs.Common.{◌≡◌, ◌++◌, map, take}
use Rattle.api_parts.specs.Writes.{in_graph, change_by}
use Rattle.api_parts.proofs.writes.change_in.Given as goal

abbrev pub invariant-loop-graph : goal.invariant-loop-graph
invariant-loop-graph l = l.changes ≡ l.initial.changes ++ map (change_by l.kept) (map (in_graph l.quad) (take l.graph-index l.contexts))
