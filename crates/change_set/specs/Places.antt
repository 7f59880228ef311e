-- Where a quad stands to those whose leading parts a pattern gives, in the order of quads.
use Rattle.std.specs.Prelude.{Option, Some, None}
use Rattle.std.specs.Ordering.{ordering_then}
use Rattle.std.specs.declared.cmp.Ordering.{Ordering}
use Rattle.std.specs.declared.cmp.Ordering.TheVariants.{Equal}
use Rattle.rdf_term.specs.declared.term.Term.{Term}
use Rattle.rdf_term.specs.declared.graph.Graph.{Graph}
use Rattle.rdf_term.specs.declared.pattern.GraphPick.{GraphPick}
use Rattle.rdf_term.specs.declared.pattern.GraphPick.TheVariants as picks
use Rattle.rdf_term.specs.declared.pattern.Pattern.{Pattern}
use Rattle.rdf_term.specs.Statement.{Statement}
use Rattle.rdf_term.specs.Order.{term_cmp, graph_cmp}

-- a term beside the one that is asked for; where it is that one, the next parts decide, and where none is asked for, none does
abbrev pub part_place : Option Term → Term → Ordering → Ordering
part_place None t next = Equal
part_place (Some u) t next = ordering_then (term_cmp t u) next

abbrev pub graph_place : GraphPick → Graph → Ordering
graph_place picks.Any c = Equal
graph_place picks.NamedOnly c = Equal
graph_place (picks.One g) c = graph_cmp c g

abbrev pub place_from_graph : GraphPick → Statement → Ordering
place_from_graph pick q = graph_place pick q.c

abbrev pub place_from_object : Pattern → Statement → Ordering
place_from_object p q = part_place p.o q.o (place_from_graph p.c q)

abbrev pub place_from_predicate : Pattern → Statement → Ordering
place_from_predicate p q = part_place p.p q.p (place_from_object p q)

-- the quad is before the quads with the pattern's leading parts, among them or behind them
abbrev pub place : Pattern → Statement → Ordering
place p q = part_place p.s q.s (place_from_predicate p q)
