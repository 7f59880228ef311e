-- The parts of a canonical line, each with the space after it.
use Rattle.std.specs.Prelude.{ℕ, List, [], ◌++◌, codes}
use Rattle.rdf_term.specs.declared.graph.Graph.{Graph}
use Rattle.rdf_term.specs.declared.graph.Graph.TheVariants.{Absent, Named}
use Rattle.rdf_term.specs.Statement.{Statement}
use Rattle.rdf_term.specs.Canonical.{term_text}

-- subject, predicate and object
abbrev pub triple_parts : Statement → List ℕ
triple_parts q = (term_text q.s ++ codes " ") ++ (term_text q.p ++ codes " ") ++ (term_text q.o ++ codes " ")

-- the name of a graph, where there is one
abbrev pub graph_part : Graph → List ℕ
graph_part Absent = []
graph_part (Named name) = term_text name ++ codes " "
