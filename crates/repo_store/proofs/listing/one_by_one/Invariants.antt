use Rattle.std.proofs.Common.{◌≡◌, take}
use Rattle.journal.specs.Found.{anywhere}
use Rattle.repo_store.specs.Graphs.{graph_by_graph}
use Rattle.repo_store.proofs.listing.one_by_one.Given as goal

abbrev pub invariant-loop-graph : goal.invariant-loop-graph
invariant-loop-graph l = l.found ≡ graph_by_graph (anywhere l.s l.p l.o) (take l.graph-index l.graphs) l.view.quads
