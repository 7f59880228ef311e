use Rattle.std.proofs.Common.{◌≡◌, take}
use Rattle.std.specs.BTreeSet.{contains}
use Rattle.std.specs.List.{list_any}
use Rattle.std.specs.Ordering.{eq_by_cmp}
use Rattle.rdf_term.specs.declared.graph.Graph.{Graph}
use Rattle.rdf_term.specs.Order.{graph_cmp}
use Rattle.repo_store.proofs.listing.set_of.Given as goal

abbrev pub invariant-loop-graph : goal.invariant-loop-graph
invariant-loop-graph l = (graph : Graph) → contains graph_cmp l.set graph ≡ list_any (λ one. eq_by_cmp graph_cmp one graph) (take l.graph-index l.graphs)
