-- The solutions of triple patterns: whole assignments of terms to the unknowns, tested against the views (SPARQL 1.1, section 18.3).
use Rattle.std.specs.Prelude.{ℕ, ◌==◌, Bool, true, false, ◌&&◌, List, [], ◌∷◌, Option, Some, None, if◌then◌else◌, length, map, filter, max, slice_get, unwrap_or}
use Rattle.std.specs.List.{flat_map, list_all, list_any, enumerate_from}
use Rattle.std.specs.Ordering.{eq_by_cmp}
use Rattle.rdf_term.specs.declared.term.Term.{Term}
use Rattle.rdf_term.specs.declared.graph.Graph.{Graph}
use Rattle.rdf_term.specs.declared.graph.Graph.TheVariants.{Absent, Named}
use Rattle.rdf_term.specs.Statement.{Statement}
use Rattle.rdf_term.specs.Order.{term_cmp}
use Rattle.rdf_term.specs.Sets.{sorted_set}
use Rattle.query_model.specs.declared.query.Slot.{Slot}
use Rattle.query_model.specs.declared.query.Scope.{Scope}
use Rattle.query_model.specs.declared.query.Scope.TheVariants as scope
use Rattle.query_model.specs.declared.query.TriplePattern.{TriplePattern}
use Rattle.query_model.specs.declared.query.Query.{Query}
use Rattle.query_model.specs.declared.query.Query.TheVariants.{Select, Ask, Construct}
use Rattle.query_model.specs.Unknowns.{unknowns, value_of}

-- whether a value is this term
abbrev pub is_term : Option Term → Term → Bool
is_term None t = false
is_term (Some u) t = eq_by_cmp term_cmp u t

-- outside GRAPH every graph serves, the absent one too; inside it the named graph that its slot gives
abbrev pub is_in_scope : List Slot → List (Option Term) → Scope → Graph → Bool
is_in_scope names row scope.Any c = true
is_in_scope names row (scope.Graph x) Absent = false
is_in_scope names row (scope.Graph x) (Named t) = is_term (value_of names row x) t

-- whether the quad is the instance that a row makes of the pattern
unfoldable pub is_instance : List Slot → List (Option Term) → TriplePattern → Statement → Bool
is_instance names row p q =
    is_term (value_of names row p.s) q.s && (is_term (value_of names row p.p) q.p && (is_term (value_of names row p.o) q.o && is_in_scope names row p.g q.c))

-- the triple patterns whose solutions a query asks for
abbrev pub group_of : Query → List TriplePattern
group_of (Select distinct vars group cut) = group
group_of (Ask group) = group
group_of (Construct template group cut) = group

-- how many views a query may be answered from: one for each of these patterns, and one where it has none
abbrev pub lookups_of : Query → ℕ
lookups_of q = max 1 (length (group_of q))

-- a pattern, and the quads among which it is looked up
pub record Lookup : Type 0 where
  pub pattern : TriplePattern
  pub quads : List Statement

-- the view of a pattern: the only one, or the one of the pattern's number; nothing where there is none
abbrev pub view_of : List (List Statement) → ℕ → List Statement
view_of views n = unwrap_or (slice_get views (if length views == 1 then 0 else n)) []

abbrev pub lookup_of : List (List Statement) → ℕ × TriplePattern → Lookup
lookup_of views x = record { pattern = x.1; quads = view_of views x.0 }

-- each pattern with its view
unfoldable pub lookups : List (List Statement) → List TriplePattern → List Lookup
lookups views patterns = map (lookup_of views) (enumerate_from 0 patterns)

-- whether the view of a pattern has the instance that a row makes of it
abbrev pub is_found : List Slot → List (Option Term) → Lookup → Bool
is_found names row l = list_any (is_instance names row l.pattern) l.quads

abbrev pub graph_terms : Graph → List Term
graph_terms Absent = []
graph_terms (Named t) = t ∷ []

abbrev pub quad_terms : Statement → List Term
quad_terms q = q.s ∷ q.p ∷ q.o ∷ graph_terms q.c

-- the terms that stand in a quad of the views, each once
unfoldable pub terms_of : List (List Statement) → List Term
terms_of views = sorted_set term_cmp (flat_map quad_terms (flat_map (λ view. view) views))

-- every row that gives each of these unknowns one of these terms
abbrev pub assignments : List Slot → List Term → List (List (Option Term))
assignments [] terms = [] ∷ []
assignments (name ∷ names) terms = flat_map (λ t. map (λ row. Some t ∷ row) (assignments names terms)) terms

-- A solution gives each unknown of the patterns a term of the views, such that each pattern's instance is in its view. Each solution once.
unfoldable pub solutions : List TriplePattern → List (List Statement) → List (List (Option Term))
solutions patterns views =
    filter (λ row. list_all (is_found (unknowns patterns) row) (lookups views patterns)) (assignments (unknowns patterns) (terms_of views))
