-- The parts of terms, and which terms may stand where (RDF 1.1 Concepts, section 3).
use Rattle.std.specs.Prelude.{ℕ, List, [], Result, Ok, Err}
use Rattle.rdf_term.specs.declared.term.Term.{Term}
use Rattle.rdf_term.specs.declared.term.Term.TheVariants.{Iri, Blank, Plain, Tagged, Typed}
use Rattle.rdf_term.specs.declared.graph.Graph.{Graph}
use Rattle.rdf_term.specs.declared.graph.Graph.TheVariants.{Absent, Named}

-- the place of a term's kind in the order of terms
abbrev pub kind : Term → ℕ
kind (Iri t) = 0
kind (Blank t) = 1
kind (Plain t) = 2
kind (Tagged t u) = 3
kind (Typed t u) = 4

-- its first text, and its second, which is empty where there is none
abbrev pub first : Term → List ℕ
first (Iri t) = t
first (Blank t) = t
first (Plain t) = t
first (Tagged t u) = t
first (Typed t u) = t

abbrev pub second : Term → List ℕ
second (Iri t) = []
second (Blank t) = []
second (Plain t) = []
second (Tagged t u) = u
second (Typed t u) = u

-- the text of a plain literal, or else the term
abbrev pub plain_text : Term → Result (List ℕ) Term
plain_text (Iri t) = Err (Iri t)
plain_text (Blank t) = Err (Blank t)
plain_text (Plain t) = Ok t
plain_text (Tagged t u) = Err (Tagged t u)
plain_text (Typed t u) = Err (Typed t u)

-- the text of an IRI, or else the term
abbrev pub iri_text : Term → Result (List ℕ) Term
iri_text (Iri t) = Ok t
iri_text (Blank t) = Err (Blank t)
iri_text (Plain t) = Err (Plain t)
iri_text (Tagged t u) = Err (Tagged t u)
iri_text (Typed t u) = Err (Typed t u)

-- what may name a subject or a graph
abbrev pub IsResource : Term → Type 0
IsResource (Iri t) = Unit {0}
IsResource (Blank t) = Unit {0}
IsResource (Plain t) = ⊥
IsResource (Tagged t u) = ⊥
IsResource (Typed t u) = ⊥

abbrev pub IsIri : Term → Type 0
IsIri (Iri t) = Unit {0}
IsIri (Blank t) = ⊥
IsIri (Plain t) = ⊥
IsIri (Tagged t u) = ⊥
IsIri (Typed t u) = ⊥

abbrev pub IsGraph : Graph → Type 0
IsGraph Absent = Unit {0}
IsGraph (Named t) = IsResource t
