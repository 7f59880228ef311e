-- The order of terms, graphs, quads and rows.
use Rattle.std.specs.Prelude.{List, Option}
use Rattle.std.specs.Option.{option_cmp}
use Rattle.std.specs.Ordering.{on, then_cmp, nat_cmp}
use Rattle.std.specs.Cmp.Lexicographic.{slice_cmp}
use Rattle.std.specs.declared.cmp.Ordering.{Ordering}
use Rattle.std.specs.declared.cmp.Ordering.TheVariants.{Less, Equal, Greater}
use Rattle.rdf_term.specs.declared.term.Term.{Term}
use Rattle.rdf_term.specs.declared.graph.Graph.{Graph}
use Rattle.rdf_term.specs.declared.graph.Graph.TheVariants.{Absent, Named}
use Rattle.rdf_term.specs.TextOrder.{text_cmp}
use Rattle.rdf_term.specs.Terms.{kind, first, second}
use Rattle.rdf_term.specs.Statement.{Statement}

-- terms are ordered by kind, then by the first text, then by the second
abbrev pub term_cmp : Term → Term → Ordering
term_cmp = then_cmp (on kind nat_cmp) (then_cmp (on first text_cmp) (on second text_cmp))

-- the absent graph comes before every named one, and named ones are ordered by their names
abbrev pub graph_cmp : Graph → Graph → Ordering
graph_cmp Absent Absent = Equal
graph_cmp Absent (Named t) = Less
graph_cmp (Named t) Absent = Greater
graph_cmp (Named t) (Named u) = term_cmp t u

-- quads are ordered by subject, predicate, object, graph
abbrev pub quad_cmp : Statement → Statement → Ordering
quad_cmp = then_cmp (on (λ q. q.s) term_cmp) (then_cmp (on (λ q. q.p) term_cmp)
    (then_cmp (on (λ q. q.o) term_cmp) (on (λ q. q.c) graph_cmp)))

-- rows are ordered column by column, an unbound place before every term, and a row before every longer one that it begins
abbrev pub row_cmp : List (Option Term) → List (Option Term) → Ordering
row_cmp = slice_cmp (option_cmp term_cmp)
