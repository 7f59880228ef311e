-- What is written: the text of quads.
use Rattle.std.specs.Prelude.{ℕ, List, map}
use Rattle.std.specs.List.{flat_map, dedup}
use Rattle.std.specs.Str.{bytes_eq}
use Rattle.std.specs.Ordering.{eq_by_cmp}
use Rattle.rdf_term.specs.declared.graph.Graph.TheVariants.{Absent}
use Rattle.rdf_term.specs.Statement.{Statement, IsStatement}
use Rattle.rdf_term.specs.Validity.{IsValidQuad}
use Rattle.rdf_term.specs.Order.{quad_cmp}
use Rattle.rdf_term.specs.Canonical.{canonical_line, canonical_triple}
use Rattle.nquads_line.specs.declared.kind.Kind.{Kind}
use Rattle.nquads_line.specs.declared.kind.Kind.TheVariants.{Triples, Quads}

-- the canonical lines of quads, in characters; as triples without their graphs, and equal neighbouring lines once
abbrev pub document_text : Kind → List Statement → List ℕ
document_text Quads quads = flat_map canonical_line quads
document_text Triples quads = flat_map (λ line. line) (dedup bytes_eq (map canonical_triple quads))

-- a quad's triple, in the absent graph
abbrev pub in_absent_graph : Statement → Statement
in_absent_graph q = record { s = q.s; p = q.p; o = q.o; c = Absent }

-- what is read again of this text: the quads; of triples the quads without their graphs, and equal neighbours once
abbrev pub read_again : Kind → List Statement → List Statement
read_again Quads quads = quads
read_again Triples quads = dedup (eq_by_cmp quad_cmp) (map in_absent_graph quads)

-- a quad that has a line of the grammar: it is one, and its terms are valid
abbrev pub IsWritable : Statement → Type 0
IsWritable q = IsStatement q.s q.p q.c × IsValidQuad q
