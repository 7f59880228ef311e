-- The canonical line of a quad: RDF 1.1 N-Triples section 4, with the graph's name before the dot as in N-Quads.
use Rattle.std.specs.Prelude.{ℕ, List, [], ◌∷◌, ◌++◌, ◌==◌, if◌then◌else◌, codes}
use Rattle.std.specs.List.{flat_map}
use Rattle.rdf_term.specs.declared.term.Term.{Term}
use Rattle.rdf_term.specs.declared.term.Term.TheVariants.{Iri, Blank, Plain, Tagged, Typed}
use Rattle.rdf_term.specs.declared.graph.Graph.{Graph}
use Rattle.rdf_term.specs.declared.graph.Graph.TheVariants.{Absent, Named}
use Rattle.rdf_term.specs.Statement.{Statement}

-- in a literal's text exactly the quotation mark, the backslash, LF and CR are escaped
abbrev pub escaped : ℕ → List ℕ
escaped c =
    if c == 34 then codes "\\\""
    else if c == 92 then codes "\\\\"
    else if c == 10 then codes "\\n"
    else if c == 13 then codes "\\r"
    else c ∷ []

-- a literal's text between its marks
abbrev pub quoted : List ℕ → List ℕ
quoted text = codes "\"" ++ flat_map escaped text ++ codes "\""

-- a term's text: its part of a canonical line
abbrev pub term_text : Term → List ℕ
term_text (Iri iri) = codes "<" ++ iri ++ codes ">"
term_text (Blank label) = codes "_:" ++ label
term_text (Plain text) = quoted text
term_text (Tagged text tag) = quoted text ++ codes "@" ++ tag
term_text (Typed text datatype) = quoted text ++ codes "^^<" ++ datatype ++ codes ">"

-- the text of a graph's name, where there is one
abbrev pub graph_texts : Graph → List (List ℕ)
graph_texts Absent = []
graph_texts (Named name) = term_text name ∷ []

-- the parts with one space between them, a space and a dot at the end, and LF
abbrev pub line_of : List (List ℕ) → List ℕ
line_of parts = flat_map (λ part. part ++ codes " ") parts ++ codes ".\n"

-- the canonical line of a quad, in characters
abbrev pub canonical_line : Statement → List ℕ
canonical_line q = line_of (term_text q.s ∷ term_text q.p ∷ term_text q.o ∷ graph_texts q.c)

-- the same without its graph
abbrev pub canonical_triple : Statement → List ℕ
canonical_triple q = line_of (term_text q.s ∷ term_text q.p ∷ term_text q.o ∷ [])
