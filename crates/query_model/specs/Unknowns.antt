-- The unknowns of triple patterns, which are their variables and blank nodes, and the values that a row gives them (SPARQL 1.1, section 18.1).
use Rattle.std.specs.Prelude.{Bool, false, List, [], ◌∷◌, ◌++◌, Option, Some, None, if◌then◌else◌, fold}
use Rattle.std.specs.List.{flat_map, list_any}
use Rattle.std.specs.Ordering.{eq_by_cmp}
use Rattle.rdf_term.specs.declared.term.Term.{Term}
use Rattle.rdf_term.specs.TextOrder.{text_cmp}
use Rattle.query_model.specs.declared.query.Slot.{Slot}
use Rattle.query_model.specs.declared.query.Slot.TheVariants.{Var, Blank, Fixed}
use Rattle.query_model.specs.declared.query.Scope.{Scope}
use Rattle.query_model.specs.declared.query.Scope.TheVariants as scope
use Rattle.query_model.specs.declared.query.TriplePattern.{TriplePattern}

-- one variable, by its name, or one blank node, by its label
abbrev pub is_same : Slot → Slot → Bool
is_same (Var x) (Var y) = eq_by_cmp text_cmp x y
is_same (Blank x) (Blank y) = eq_by_cmp text_cmp x y
is_same (Var x) _ = false
is_same (Blank x) _ = false
is_same (Fixed t) _ = false

-- a term is no unknown
abbrev pub unknown_in : Slot → List Slot
unknown_in (Var x) = Var x ∷ []
unknown_in (Blank x) = Blank x ∷ []
unknown_in (Fixed t) = []

abbrev pub scope_unknown : Scope → List Slot
scope_unknown scope.Any = []
scope_unknown (scope.Graph x) = unknown_in x

-- the unknowns of a pattern as they stand: that of GRAPH stands before its block; then come subject, predicate and object
abbrev pub standing_in : TriplePattern → List Slot
standing_in p = scope_unknown p.g ++ (unknown_in p.s ++ (unknown_in p.p ++ unknown_in p.o))

-- these and one more at the end, unless it is there
abbrev pub with_unknown : List Slot → Slot → List Slot
with_unknown names x = if list_any (is_same x) names then names else names ++ x ∷ []

-- the unknowns of patterns, each once, in the order in which they first stand
unfoldable pub unknowns : List TriplePattern → List Slot
unknowns patterns = fold with_unknown [] (flat_map standing_in patterns)

-- the value at the place of an unknown, where the row has one
abbrev pub value_at : List Slot → List (Option Term) → Slot → Option Term
value_at [] row x = None
value_at (name ∷ names) [] x = None
value_at (name ∷ names) (value ∷ row) x = if is_same x name then value else value_at names row x

-- the value of a slot in a row with a place for each of these unknowns: a term stands for itself
abbrev pub value_of : List Slot → List (Option Term) → Slot → Option Term
value_of names row (Var x) = value_at names row (Var x)
value_of names row (Blank x) = value_at names row (Blank x)
value_of names row (Fixed t) = Some t
