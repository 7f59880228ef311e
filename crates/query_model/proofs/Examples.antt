-- Worked cases of the definitions, by computation.
use Rattle.std.proofs.Common.{◌≡◌, refl, List, [], ◌∷◌, Some, None, true, false, codes}
use Rattle.rdf_term.specs.declared.term.Term.{Term}
use Rattle.rdf_term.specs.declared.term.Term.TheVariants.{Iri, Plain}
use Rattle.rdf_term.specs.declared.graph.Graph.{Graph}
use Rattle.rdf_term.specs.declared.graph.Graph.TheVariants.{Absent, Named}
use Rattle.rdf_term.specs.Statement.{Statement}
use Rattle.query_model.specs.declared.query.Slot.{Slot}
use Rattle.query_model.specs.declared.query.Slot.TheVariants.{Var, Blank, Fixed}
use Rattle.query_model.specs.declared.query.Scope.TheVariants as scope
use Rattle.query_model.specs.declared.query.TriplePattern.{TriplePattern}
use Rattle.query_model.specs.declared.query.Cut.{Cut}
use Rattle.query_model.specs.declared.query.Query.TheVariants.{Select, Ask, Construct}
use Rattle.query_model.specs.declared.found.Found.TheVariants as answer
use Rattle.query_model.specs.Unknowns.{unknowns}
use Rattle.query_model.specs.Solutions.{is_instance, lookups, terms_of, solutions, lookups_of}
use Rattle.query_model.specs.Found.{selected, constructed, found}

-- terms <a>, <b>, <g>, <p> and "a"
abbrev a : Term
a = Iri (codes "a")

abbrev b : Term
b = Iri (codes "b")

abbrev g : Term
g = Iri (codes "g")

abbrev p : Term
p = Iri (codes "p")

abbrev text : Term
text = Plain (codes "a")

-- variables ?x, ?y and ?z
abbrev x : Slot
x = Var (codes "x")

abbrev y : Slot
y = Var (codes "y")

abbrev z : Slot
z = Var (codes "z")

abbrev quad : Term → Term → Term → Graph → Statement
quad s q o c = record { s = s; p = q; o = o; c = c }

abbrev anywhere : Slot → Slot → Slot → TriplePattern
anywhere s q o = record { s = s; p = q; o = o; g = scope.Any }

abbrev inside : Slot → Slot → Slot → Slot → TriplePattern
inside graph s q o = record { s = s; p = q; o = o; g = scope.Graph graph }

abbrev whole : Cut
whole = record { limit = None; offset = 0 }

-- one triple in two graphs
abbrev twice : List Statement
twice = quad a p b Absent ∷ quad a p b (Named g) ∷ []

-- the unknown of GRAPH comes first, and a blank node is no variable of the same name
in_their_order : unknowns (anywhere x (Fixed p) y ∷ inside z y (Blank (codes "y")) x ∷ []) ≡ x ∷ y ∷ z ∷ Blank (codes "y") ∷ []
unfolding unknowns lib.Utf8.encode
in_their_order = refl

graph_first : unknowns (inside z x (Fixed p) y ∷ []) ≡ z ∷ x ∷ y ∷ []
unfolding unknowns lib.Utf8.encode
graph_first = refl

-- outside GRAPH a triple in two graphs gives one solution
once_of_two_graphs : solutions (anywhere x (Fixed p) y ∷ []) (twice ∷ []) ≡ (Some a ∷ Some b ∷ []) ∷ []
unfolding unknowns solutions lookups is_instance terms_of lib.Utf8.encode
once_of_two_graphs = refl

-- GRAPH doesn't take the absent graph
named_alone : solutions (inside z (Fixed a) (Fixed p) (Fixed b) ∷ []) (twice ∷ []) ≡ (Some g ∷ []) ∷ []
unfolding unknowns solutions lookups is_instance terms_of lib.Utf8.encode
named_alone = refl

-- a variable that stands twice has one value
one_value : solutions (anywhere x (Fixed p) x ∷ []) ((quad a p a Absent ∷ quad a p b Absent ∷ []) ∷ []) ≡ (Some a ∷ []) ∷ []
unfolding unknowns solutions lookups is_instance terms_of lib.Utf8.encode
one_value = refl

-- patterns without unknowns have the empty row, or nothing
nothing_unknown : (solutions [] [] ≡ [] ∷ []) × (solutions (anywhere (Fixed a) (Fixed p) (Fixed b) ∷ []) (twice ∷ []) ≡ [] ∷ [])
    × (solutions (anywhere (Fixed b) (Fixed p) (Fixed a) ∷ []) (twice ∷ []) ≡ [])
unfolding unknowns solutions lookups is_instance terms_of lib.Utf8.encode
nothing_unknown = (refl, refl, refl)

-- of two views the second is that of the second pattern
own_view : solutions (anywhere (Fixed a) (Fixed p) x ∷ anywhere x (Fixed p) (Fixed a) ∷ []) ((quad a p b Absent ∷ []) ∷ (quad b p a Absent ∷ []) ∷ []) ≡ (Some b ∷ []) ∷ []
unfolding unknowns solutions lookups is_instance terms_of lib.Utf8.encode
own_view = refl

own_view_alone : solutions (anywhere (Fixed a) (Fixed p) x ∷ anywhere x (Fixed p) (Fixed a) ∷ []) ((quad b p a Absent ∷ []) ∷ (quad a p b Absent ∷ []) ∷ []) ≡ []
unfolding unknowns solutions lookups is_instance terms_of lib.Utf8.encode
own_view_alone = refl

-- <a> has <b> by two predicates
abbrev by_two : List Statement
by_two = quad a p b Absent ∷ quad a g b Absent ∷ []

abbrev group : List TriplePattern
group = anywhere (Fixed a) x y ∷ []

-- equal rows stay, and with DISTINCT one does; a variable that the group doesn't hold is unbound
with_equal_rows : found (Select false (codes "y" ∷ codes "z" ∷ []) group whole) (by_two ∷ []) 2
    ≡ Some (answer.Table (record { vars = codes "y" ∷ codes "z" ∷ []; rows = (Some b ∷ None ∷ []) ∷ (Some b ∷ None ∷ []) ∷ [] }))
unfolding unknowns solutions lookups is_instance terms_of selected lib.Utf8.encode
with_equal_rows = refl

distinct_rows : found (Select true (codes "y" ∷ []) group whole) (by_two ∷ []) 2 ≡ Some (answer.Table (record { vars = codes "y" ∷ []; rows = (Some b ∷ []) ∷ [] }))
unfolding unknowns solutions lookups is_instance terms_of selected lib.Utf8.encode
distinct_rows = refl

-- the second of the sorted rows, and none
cut_rows : (found (Select false (codes "x" ∷ []) group (record { limit = Some 5; offset = 1 })) (by_two ∷ []) 2 ≡ Some (answer.Table (record { vars = codes "x" ∷ []; rows = (Some p ∷ []) ∷ [] })))
    × (found (Select false (codes "x" ∷ []) group (record { limit = Some 0; offset = 0 })) (by_two ∷ []) 2 ≡ Some (answer.Table (record { vars = codes "x" ∷ []; rows = [] })))
unfolding unknowns solutions lookups is_instance terms_of selected lib.Utf8.encode
cut_rows = (refl, refl)

-- two solutions are more than one, whatever LIMIT leaves, and ASK has its answer all the same
too_many : (found (Select false (codes "x" ∷ []) group (record { limit = Some 0; offset = 0 })) (by_two ∷ []) 1 ≡ None)
    × (found (Construct [] group whole) (by_two ∷ []) 1 ≡ None) × (found (Ask group) (by_two ∷ []) 0 ≡ Some (answer.Truth true))
unfolding unknowns solutions lookups is_instance terms_of selected constructed lib.Utf8.encode
too_many = (refl, refl, refl)

-- a literal can't be a subject: of the two triples that this template would make one is left out, and the other is in the absent graph
no_literal_subject : found (Construct (anywhere y (Fixed p) (Fixed a) ∷ []) (anywhere (Fixed a) (Fixed p) y ∷ []) whole) ((quad a p text (Named g) ∷ quad a p b (Named g) ∷ []) ∷ []) 2
    ≡ Some (answer.Quads (quad b p a Absent ∷ []))
unfolding unknowns solutions lookups is_instance terms_of constructed lib.Utf8.encode
no_literal_subject = refl

-- a query without patterns has one view
steps : (lookups_of (Ask []) ≡ 1) × (lookups_of (Construct (group) [] whole) ≡ 1) × (lookups_of (Ask (anywhere x x x ∷ anywhere y y y ∷ [])) ≡ 2)
steps = (refl, refl, refl)
