use Rattle.std.proofs.Common.{◌≡◌, map, take}
use Rattle.rdf_term.specs.declared.pattern.GraphPick.TheVariants as picks
use Rattle.journal.proofs.observed.in_each_graph.Given as goal

abbrev pub invariant-loop-graph : goal.invariant-loop-graph
invariant-loop-graph l = l.patterns ≡ map (λ graph. record l.pattern { c = picks.One graph }) (take l.graph-index l.graphs)
