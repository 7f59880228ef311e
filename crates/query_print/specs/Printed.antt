-- The text of a query: its tokens in the order of the SPARQL 1.1 grammar (section 19.8), with one space between them. A term stands as its
-- canonical text of N-Triples (RDF 1.1 N-Triples, section 4), within which there is no space but those of a literal's text.
use Rattle.std.specs.Prelude.{ℕ, suc, zero, Bool, true, false, List, [], ◌∷◌, ◌++◌, Option, Some, None, map, codes}
use Rattle.std.specs.List.{flat_map}
use Rattle.std.specs.Fmt.{decimal}
use Rattle.rdf_term.specs.Canonical.{term_text}
use Rattle.query_model.specs.declared.query.Slot.{Slot}
use Rattle.query_model.specs.declared.query.Slot.TheVariants as slot
use Rattle.query_model.specs.declared.query.Scope.{Scope}
use Rattle.query_model.specs.declared.query.Scope.TheVariants as scope
use Rattle.query_model.specs.declared.query.TriplePattern.{TriplePattern}
use Rattle.query_model.specs.declared.query.Cut.{Cut}
use Rattle.query_model.specs.declared.query.Query.{Query}
use Rattle.query_model.specs.declared.query.Query.TheVariants as query

-- a variable
abbrev pub var_text : List ℕ → List ℕ
var_text name = codes "?" ++ name

-- a variable, a blank node or a term
abbrev pub slot_text : Slot → List ℕ
slot_text (slot.Var name) = var_text name
slot_text (slot.Blank label) = codes "_:" ++ label
slot_text (slot.Fixed term) = term_text term

-- subject, predicate and object with a dot behind them
abbrev pub triple_words : TriplePattern → List (List ℕ)
triple_words x = slot_text x.s ∷ slot_text x.p ∷ slot_text x.o ∷ codes "." ∷ []

abbrev pub braced : List (List ℕ) → List (List ℕ)
braced words = codes "{" ∷ words ++ codes "}" ∷ []

-- a pattern in a graph stands in a GRAPH block of its own
abbrev pub in_scope : Scope → List (List ℕ) → List (List ℕ)
in_scope scope.Any words = words
in_scope (scope.Graph name) words = codes "GRAPH" ∷ slot_text name ∷ braced words

abbrev pub pattern_words : TriplePattern → List (List ℕ)
pattern_words x = in_scope x.g (triple_words x)

-- a group or a template
abbrev pub group_words : List TriplePattern → List (List ℕ)
group_words patterns = braced (flat_map pattern_words patterns)

-- `*` where no variable is projected
abbrev pub projection_words : List (List ℕ) → List (List ℕ)
projection_words [] = codes "*" ∷ []
projection_words (v ∷ vs) = map var_text (v ∷ vs)

abbrev pub distinct_words : Bool → List (List ℕ)
distinct_words false = []
distinct_words true = codes "DISTINCT" ∷ []

abbrev pub limit_words : Option ℕ → List (List ℕ)
limit_words None = []
limit_words (Some n) = codes "LIMIT" ∷ decimal n ∷ []

-- no OFFSET where nothing is left out
abbrev pub offset_words : ℕ → List (List ℕ)
offset_words zero = []
offset_words (suc n) = codes "OFFSET" ∷ decimal (suc n) ∷ []

abbrev pub cut_words : Cut → List (List ℕ)
cut_words c = limit_words c.limit ++ offset_words c.offset

abbrev pub words : Query → List (List ℕ)
words (query.Select distinct vars group cut) =
    codes "SELECT" ∷ distinct_words distinct ++ projection_words vars ++ codes "WHERE" ∷ group_words group ++ cut_words cut
words (query.Ask group) = codes "ASK" ∷ codes "WHERE" ∷ group_words group
words (query.Construct template group cut) = codes "CONSTRUCT" ∷ group_words template ++ codes "WHERE" ∷ group_words group ++ cut_words cut

-- each with a space before it
abbrev pub spaced : List (List ℕ) → List ℕ
spaced words = flat_map (λ word. codes " " ++ word) words

-- with one space between two of them
abbrev pub joined : List (List ℕ) → List ℕ
joined [] = []
joined (word ∷ words) = word ++ spaced words

-- the text of a query, in characters
abbrev pub printed : Query → List ℕ
printed q = joined (words q)
