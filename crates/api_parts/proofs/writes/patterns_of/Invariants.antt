use Rattle.std.proofs.Common.{◌≡◌, map, take}
use Rattle.rdf_term.specs.declared.pattern.GraphPick.TheVariants.{One}
use Rattle.api_parts.proofs.writes.patterns_of.Given as goal

abbrev pub invariant-loop-graph : goal.invariant-loop-graph
invariant-loop-graph l =
    l.patterns ≡ map (λ pick. record { s = l.selection.s; p = l.selection.p; o = l.selection.o; c = pick }) (map One (take l.graph-index l.contexts))
