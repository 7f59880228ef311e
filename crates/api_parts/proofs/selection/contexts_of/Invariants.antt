use Rattle.std.proofs.Common.{◌≡◌, List, take}
use Rattle.rdf_term.specs.declared.graph.Graph.{Graph}
use Rattle.api_parts.specs.Selections.{AreContexts, each_once}
use Rattle.api_parts.proofs.selection.contexts_of.Given as goal

abbrev pub invariant-loop-value : goal.invariant-loop-value
invariant-loop-value l = (graphs : List Graph) × AreContexts (take l.value-index l.values) graphs × (l.graphs ≡ each_once graphs)
