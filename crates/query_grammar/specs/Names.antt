-- The variables of a query, each once, in the order in which they first stand (SPARQL 1.1, section 18.2.4.5).
use Rattle.std.specs.Prelude.{ℕ, Bool, if◌then◌else◌, List, [], ◌∷◌, ◌++◌, fold}
use Rattle.std.specs.List.{list_any}
use Rattle.std.specs.Ordering.{eq_by_cmp}
use Rattle.rdf_term.specs.TextOrder.{text_cmp}
use Rattle.query_model.specs.declared.query.Slot.{Slot}
use Rattle.query_model.specs.declared.query.Slot.TheVariants as slot
use Rattle.query_model.specs.declared.query.Scope.{Scope}
use Rattle.query_model.specs.declared.query.Scope.TheVariants as scope
use Rattle.query_model.specs.declared.query.TriplePattern.{TriplePattern}

-- whether the name stands among these
abbrev pub is_among : List (List ℕ) → List ℕ → Bool
is_among names name = list_any (eq_by_cmp text_cmp name) names

-- these names and one more at the end, unless it is there
unfoldable pub with_name : List (List ℕ) → List ℕ → List (List ℕ)
with_name names name = if is_among names name then names else names ++ name ∷ []

-- a variable is named, a blank node and a term are not
abbrev pub with_slot : List (List ℕ) → Slot → List (List ℕ)
with_slot names (slot.Var name) = with_name names name
with_slot names (slot.Blank label) = names
with_slot names (slot.Fixed term) = names

abbrev pub with_scope : List (List ℕ) → Scope → List (List ℕ)
with_scope names scope.Any = names
with_scope names (scope.Graph s) = with_slot names s

-- the variable of GRAPH stands before its block; then come subject, predicate and object
unfoldable pub with_pattern : List (List ℕ) → TriplePattern → List (List ℕ)
with_pattern names x = with_slot (with_slot (with_slot (with_scope names x.g) x.s) x.p) x.o

-- what SELECT * projects
unfoldable pub standing : List TriplePattern → List (List ℕ)
standing patterns = fold with_pattern [] patterns

-- what SELECT projects by name
abbrev pub firsts : List (List ℕ) → List (List ℕ)
firsts names = fold with_name [] names
