-- What is found depends on the quads alone that the observed patterns match.
use Rattle.std.proofs.Common.{◌≡◌, ◌==◌, ℕ, zero, suc, ◌+◌, Bool, true, false, cond, ◌&&◌, ◌||◌, List, [], ◌∷◌, map, length, Option, Some, None, nat_lt, refl, sym, ap, subst, ◌∙◌, arith, add-zero, if◌then◌else◌}
use Rattle.std.specs.Prelude.{slice_get}
use Rattle.std.specs.List.{AllByRecursion, enumerate_from, filter_map, flat_map, list_all, list_any}
use Rattle.std.specs.List.Sorted.{IsPermutation}
use Rattle.std.specs.Ordering.{eq_by_cmp, is_eq}
use Rattle.std.proofs.lemmas.Cmp.{tied_itself}
use Rattle.std.proofs.lemmas.List.Sorted.{IsPermutation-map, length_permutation, list_any-IsPermutation}
use Rattle.rdf_term.specs.declared.term.Term.{Term}
use Rattle.rdf_term.specs.declared.graph.Graph.{Graph}
use Rattle.rdf_term.specs.declared.graph.Graph.TheVariants.{Absent, Named}
use Rattle.rdf_term.specs.declared.pattern.Pattern.{Pattern}
use Rattle.rdf_term.specs.Statement.{Statement}
use Rattle.rdf_term.specs.Matching.{fits, matches, picks_graph}
use Rattle.rdf_term.specs.Order.{quad_cmp, row_cmp}
use Rattle.rdf_term.specs.OrderLaws.{quad_exact, quad_total, row_exact, row_total}
use Rattle.rdf_term.specs.Sets.{in_order, rows_in_order, sorted_set}
use Rattle.rdf_term.proofs.SetLemmas.{has, sorted_set-same}
use Rattle.rdf_term.proofs.SortLemmas.{sorted_list-same}
use Rattle.query_model.specs.declared.query.Slot.{Slot}
use Rattle.query_model.specs.declared.query.Slot.TheVariants.{Var, Blank, Fixed}
use Rattle.query_model.specs.declared.query.Scope.{Scope}
use Rattle.query_model.specs.declared.query.Scope.TheVariants as scope
use Rattle.query_model.specs.declared.query.TriplePattern.{TriplePattern}
use Rattle.query_model.specs.declared.query.Cut.{Cut}
use Rattle.query_model.specs.declared.query.Query.{Query}
use Rattle.query_model.specs.declared.query.Query.TheVariants.{Select, Ask, Construct}
use Rattle.query_model.specs.declared.found.Found.TheVariants as answer
use Rattle.query_model.specs.Unknowns.{unknowns, value_of}
use Rattle.query_model.specs.Solutions.{group_of, is_found, is_in_scope, is_instance, is_term, lookup_of, lookups, solutions, view_of}
use Rattle.query_model.specs.Found.{are_more, constructed, cut_rows, found, made_of, projection, selected}
use Rattle.query_model.specs.Laws.{is_solution}
use Rattle.query_model.specs.Observed.{fixed_term, pattern_of, pick_of}
use Rattle.query_model.specs.Depends.{FoundInEachView, FoundInOneView, HaveSame}
use Rattle.query_model.proofs.AssignmentLemmas.{Equal_of}
use Rattle.query_model.proofs.CountLemmas.{count, count_is, same_counts}
use Rattle.query_model.proofs.ElementLemmas.{both, by_truth, some_passes}
use Rattle.query_model.proofs.SolutionLemmas.{each_once}

-- a quad that is an instance of a pattern matches its observed pattern

slot_fits : (names : List Slot) (row : List (Option Term)) (x : Slot) (t : Term) → is_term (value_of names row x) t ≡ true → fits (fixed_term x) t ≡ true
slot_fits names row (Var x) t e = refl
slot_fits names row (Blank x) t e = refl
slot_fits names row (Fixed u) t e = e

scope_picks : (names : List Slot) (row : List (Option Term)) (g : Scope) (c : Graph) → is_in_scope names row g c ≡ true → picks_graph (pick_of g) c ≡ true
scope_picks names row scope.Any c e = refl
scope_picks names row (scope.Graph x) Absent e = cc
scope_picks names row (scope.Graph (Var x)) (Named t) e = refl
scope_picks names row (scope.Graph (Blank x)) (Named t) e = refl
scope_picks names row (scope.Graph (Fixed u)) (Named t) e = e

instance_matches : (names : List Slot) (row : List (Option Term)) (p : TriplePattern) (q : Statement) → is_instance names row p q ≡ true → matches (pattern_of p) q ≡ true
unfolding is_instance
instance_matches names row p q e =
    let a = both _ _ e in
    let b = both _ _ a.1 in
    let d = both _ _ b.1 in
    λ i. slot_fits names row p.s q.s a.0 i && slot_fits names row p.p q.p b.0 i && slot_fits names row p.o q.o d.0 i && scope_picks names row p.g q.c d.1 i

-- so whether a view has an instance depends on the matching quads alone

or_true : (b : Bool) → (b || true) ≡ true
or_true true = refl
or_true false = refl

-- a quad that a view has and that passes
had_passes : (test : Statement → Bool) (view : List Statement) (q : Statement) → has quad_cmp view q ≡ true → test q ≡ true → list_any test view ≡ true
had_passes test [] q h e = cc
had_passes test (r ∷ view) q h e = by_truth (eq_by_cmp quad_cmp q r)
    (λ same. let is : r ≡ q = sym (quad_exact q r (Equal_of (quad_cmp q r) same)) in λ i. (ap test is ∙ e) i || list_any test view)
    (λ other. ap (λ b. test r || b) (had_passes test view q (subst (λ b. (b || has quad_cmp view q) ≡ true) other h) e) ∙ or_true (test r))

-- a view has each of its quads
each_had : (all view : List Statement) → ((q : Statement) → has quad_cmp view q ≡ true → has quad_cmp all q ≡ true) → AllByRecursion (λ q. has quad_cmp all q ≡ true) view
each_had all [] f = tt
each_had all (q ∷ view) f = (
  f q (λ i. is_eq (tied_itself quad_total q i) || has quad_cmp view q),
  each_had all view (λ r e. f r (ap (λ b. eq_by_cmp quad_cmp r q || b) e ∙ or_true (eq_by_cmp quad_cmp r q))),
)

-- tests that imply each other
same_truth : (a b : Bool) → (a ≡ true → b ≡ true) → (b ≡ true → a ≡ true) → a ≡ b
same_truth true b f g = sym (f refl)
same_truth false true f g = g refl
same_truth false false f g = refl

module _ (test keeps : Statement → Bool) (implies : (q : Statement) → test q ≡ true → keeps q ≡ true) where
  passes_there : (view other : List Statement) → HaveSame keeps view other → list_any test view ≡ true → list_any test other ≡ true
  passes_there view other same e = some_passes (λ q. has quad_cmp view q ≡ true) test view e (each_had view view (λ q h. h))
      (λ q t h. had_passes test other q (sym (same q (implies q t)) ∙ h) t)

  same_any : (view other : List Statement) → HaveSame keeps view other → list_any test view ≡ list_any test other
  same_any view other same = same_truth (list_any test view) (list_any test other) (passes_there view other same) (passes_there other view (λ q k. sym (same q k)))

-- each of these patterns, with its number, has what P says
abbrev EachFrom : (TriplePattern → ℕ → Type 0) → ℕ → List TriplePattern → Type 0
EachFrom P n [] = Unit {0}
EachFrom P n (p ∷ patterns) = P p n × EachFrom P (n + 1) patterns

each_from : (P : TriplePattern → ℕ → Type 0) (n : ℕ) (patterns : List TriplePattern)
    → ((k : ℕ) (p : TriplePattern) → slice_get patterns k ≡ Some p → P p (n + k)) → EachFrom P n patterns
each_from P n [] h = tt
each_from P n (p ∷ patterns) h =
    let first : n + 0 ≡ n = omega arith in
    let next : (k : ℕ) → n + suc k ≡ (n + 1) + k = λ k. omega arith in
    (subst (P p) first (h 0 p refl), each_from P (n + 1) patterns (λ k r e. subst (P r) (next k) (h (suc k) r e)))

module _ (views others : List (List Statement)) where
  -- the two views of a pattern have the same matching quads
  abbrev pub Agree : TriplePattern → ℕ → Type 0
  Agree p n = HaveSame (matches (pattern_of p)) (view_of views n) (view_of others n)

  all_found : (names : List Slot) (row : List (Option Term)) (n : ℕ) (patterns : List TriplePattern) → EachFrom Agree n patterns
      → list_all (is_found names row) (map (lookup_of views) (enumerate_from n patterns)) ≡ list_all (is_found names row) (map (lookup_of others) (enumerate_from n patterns))
  all_found names row n [] a = refl
  all_found names row n (p ∷ patterns) a =
      λ i. same_any (is_instance names row p) (matches (pattern_of p)) (instance_matches names row p) (view_of views n) (view_of others n) a.0 i
      && all_found names row (n + 1) patterns a.1 i

  module _ (patterns : List TriplePattern) (agree : EachFrom Agree 0 patterns) where
    same_solution : (row : List (Option Term)) → is_solution patterns views row ≡ is_solution patterns others row
    unfolding lookups
    same_solution row = ap (λ b. length row == length (unknowns patterns) && b) (all_found (unknowns patterns) row 0 patterns agree)

    -- the solutions are the same, in some order
    same_solutions : IsPermutation (solutions patterns views) (solutions patterns others)
    same_solutions = same_counts row_total row_exact (solutions patterns views) (solutions patterns others)
        (λ row. sym (count_is (eq_by_cmp row_cmp row) (solutions patterns views))
        ∙ each_once patterns views row
        ∙ ap (λ b. if b then 1 else 0) (same_solution row)
        ∙ sym (each_once patterns others row)
        ∙ count_is (eq_by_cmp row_cmp row) (solutions patterns others))

    same_length : length (solutions patterns views) ≡ length (solutions patterns others)
    same_length = sym (length_permutation (solutions patterns views) (solutions patterns others) same_solutions)

    same_selected : (distinct : Bool) (vars : List (List ℕ)) → selected distinct vars patterns views ≡ selected distinct vars patterns others
    unfolding selected
    same_selected distinct vars = at distinct
      where
        column : List (Option Term) → List (Option Term)
        column = projection (unknowns patterns) vars

        moved : IsPermutation (map (projection (unknowns patterns) vars) (solutions patterns views)) (map (projection (unknowns patterns) vars) (solutions patterns others))
        moved = IsPermutation-map (projection (unknowns patterns) vars) (solutions patterns views) (solutions patterns others) same_solutions

        at : (b : Bool) → (if b then sorted_set row_cmp (map (projection (unknowns patterns) vars) (solutions patterns views)) else rows_in_order (map (projection (unknowns patterns) vars) (solutions patterns views)))
            ≡ (if b then sorted_set row_cmp (map (projection (unknowns patterns) vars) (solutions patterns others)) else rows_in_order (map (projection (unknowns patterns) vars) (solutions patterns others)))
        at true = sorted_set-same row_total row_exact _ _ (λ q. list_any-IsPermutation (eq_by_cmp row_cmp q) _ _ moved)
        at false = sorted_list-same row_total row_exact _ _ moved

    same_constructed : (template : List TriplePattern) (cut : Cut) → constructed template patterns cut views ≡ constructed template patterns cut others
    unfolding constructed
    same_constructed template cut =
        ap (λ rows. in_order (flat_map (λ row. filter_map (made_of (unknowns patterns) row) template) (cut_rows cut rows)))
        (sorted_list-same row_total row_exact (solutions patterns views) (solutions patterns others) same_solutions)

  same_found : (query : Query) (most : ℕ) → EachFrom Agree 0 (group_of query) → found query views most ≡ found query others most
  same_found (Select distinct vars group cut) most agree = λ i.
      if nat_lt most (same_length group agree i) then None
      else Some (answer.Table (record { vars = vars; rows = cut_rows cut (same_selected group agree distinct vars i) }))
  same_found (Ask group) most agree = λ i. Some (answer.Truth (nat_lt 0 (same_length group agree i)))
  same_found (Construct template group cut) most agree = λ i.
      if nat_lt most (same_length group agree i) then None else Some (answer.Quads (same_constructed group agree template cut i))

-- the observed pattern at a place
pattern_at : (patterns : List TriplePattern) (n : ℕ) (p : TriplePattern) → slice_get patterns n ≡ Some p → slice_get (map pattern_of patterns) n ≡ Some (pattern_of p)
pattern_at [] n p e = cc
pattern_at (x ∷ patterns) zero p e = let same : x ≡ p = cc in ap (λ y. Some (pattern_of y)) same
pattern_at (x ∷ patterns) (suc n) p e = pattern_at patterns n p e

pub in_each_view : FoundInEachView
in_each_view = λ query views others most same.
    same_found views others query most
    (each_from (Agree views others) 0 (group_of query)
    (λ k p e. let there : k ≡ 0 + k = omega arith in subst (Agree views others p) there (same k (pattern_of p) (pattern_at (group_of query) k p e))))

-- what matches one pattern matches one of them
one_matches : (patterns : List TriplePattern) (n : ℕ) (p : TriplePattern) (q : Statement) → slice_get patterns n ≡ Some p → matches (pattern_of p) q ≡ true
    → list_any (λ pattern. matches pattern q) (map pattern_of patterns) ≡ true
one_matches [] n p q e h = cc
one_matches (x ∷ patterns) zero p q e h =
    let same : x ≡ p = cc in
    let here : matches (pattern_of x) q ≡ true = ap (λ y. matches (pattern_of y) q) same ∙ h in
    λ i. here i || list_any (λ pattern. matches pattern q) (map pattern_of patterns)
one_matches (x ∷ patterns) (suc n) p q e h = ap (λ b. matches (pattern_of x) q || b) (one_matches patterns n p q e h) ∙ or_true (matches (pattern_of x) q)

pub in_one_view : FoundInOneView
in_one_view = λ query view other most same.
    same_found (view ∷ []) (other ∷ []) query most
    (each_from (Agree (view ∷ []) (other ∷ [])) 0 (group_of query) (λ k p e q h. same q (one_matches (group_of query) k p q e h)))
