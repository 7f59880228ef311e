-- In which graphs quads stand.
use Rattle.std.specs.Prelude.{Bool, List, map}
use Rattle.std.specs.List.{list_any, flat_map, filter}
use Rattle.std.specs.Ordering.{eq_by_cmp}
use Rattle.rdf_term.specs.declared.graph.Graph.{Graph}
use Rattle.rdf_term.specs.declared.pattern.Pattern.{Pattern}
use Rattle.rdf_term.specs.declared.pattern.GraphPick.TheVariants as picks
use Rattle.rdf_term.specs.Statement.{Statement}
use Rattle.rdf_term.specs.Matching.{matches}
use Rattle.rdf_term.specs.Order.{graph_cmp}

-- whether a quad stands in one of the graphs
abbrev pub is_in_one : List Graph → Statement → Bool
is_in_one graphs q = list_any (λ graph. eq_by_cmp graph_cmp graph q.c) graphs

-- the pattern in a graph
abbrev pub in_graph : Pattern → Graph → Pattern
in_graph p graph = record p { c = picks.One graph }

-- the pattern in each of these graphs; in none where there is none
abbrev pub in_each : Pattern → List Graph → List Pattern
in_each p graphs = map (in_graph p) graphs

-- what the pattern matches in each of these graphs, graph by graph
abbrev pub graph_by_graph : Pattern → List Graph → List Statement → List Statement
graph_by_graph p graphs quads = flat_map (λ graph. filter (matches (in_graph p graph)) quads) graphs
