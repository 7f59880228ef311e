-- Quads whose parts are lent.
use Rattle.std.specs.Prelude.{Option, Some, None}
use Rattle.std.specs.Option.{option_copied}
use Rattle.rdf_term.specs.declared.graph.Graph.{Graph}
use Rattle.rdf_term.specs.declared.graph.Graph.TheVariants.{Absent, Named}
use Rattle.rdf_term.specs.declared.term.Term.{Term}
use Rattle.rdf_term.specs.Statement.{Statement}
use Rattle.quad_index.specs.declared.parts.Parts.{Parts}

-- the graph of a name, or the absent one
abbrev pub graph_of : Option Term → Graph
graph_of None = Absent
graph_of (Some t) = Named t

-- the quad with these parts
abbrev pub quad_of : Parts → Statement
quad_of it = record { s = it.s.now; p = it.p.now; o = it.o.now; c = graph_of (option_copied it.name) }
