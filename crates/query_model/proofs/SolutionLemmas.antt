-- A row with a place for each unknown, which makes each pattern found, gives each of them a term of the views.
use Rattle.std.proofs.Common.{◌≡◌, ◌==◌, ℕ, ◌+◌, suc, Bool, true, false, cond, ◌&&◌, ◌||◌, List, [], ◌∷◌, ◌++◌, map, flat_map, length, Option, Some, None, eqb-true, eq-eqb, refl, sym, ap, subst, ◌∙◌, arith}
use Rattle.std.specs.List.{AllByRecursion, IsDistinct, list_all, enumerate_from}
use Rattle.std.specs.Ordering.{eq_by_cmp, is_eq}
use Rattle.std.proofs.lemmas.Cmp.{tied_itself}
use Rattle.std.proofs.lemmas.Map.Keys.{IsDistinct-from_sorted}
use Rattle.rdf_term.specs.declared.term.Term.{Term}
use Rattle.rdf_term.specs.declared.graph.Graph.{Graph}
use Rattle.rdf_term.specs.declared.graph.Graph.TheVariants.{Absent, Named}
use Rattle.rdf_term.specs.Statement.{Statement}
use Rattle.rdf_term.specs.Order.{term_cmp, row_cmp}
use Rattle.rdf_term.specs.OrderLaws.{term_total, term_exact, row_exact}
use Rattle.rdf_term.proofs.SetLemmas.{has, has-sorted_set, sorted_set-sorted}
use Rattle.query_model.specs.declared.query.Slot.{Slot}
use Rattle.query_model.specs.declared.query.Slot.TheVariants.{Var, Blank, Fixed}
use Rattle.query_model.specs.declared.query.Scope.{Scope}
use Rattle.query_model.specs.declared.query.Scope.TheVariants as scope
use Rattle.query_model.specs.declared.query.TriplePattern.{TriplePattern}
use Rattle.query_model.specs.Unknowns.{unknown_in, scope_unknown, standing_in, unknowns, value_at, value_of}
use Rattle.query_model.specs.Solutions.{is_term, is_in_scope, is_instance, view_of, lookup_of, lookups, is_found, graph_terms, quad_terms, terms_of, assignments, solutions}
use Rattle.query_model.specs.Laws.{EachSolutionOnce}
use Rattle.query_model.proofs.CountLemmas.{count_is, count-filter}
use Rattle.query_model.proofs.ElementLemmas.{both, each-append, each-piece, each-at, some_passes}
use Rattle.query_model.proofs.AssignmentLemmas.{is_known, fits, Equal_of, count-assignments}
use Rattle.query_model.proofs.UnknownLemmas.{unknowns-apart, each-unknown, values-row}

-- a list has each of its items
each_had : (all xs : List Term) → ((t : Term) → has term_cmp xs t ≡ true → has term_cmp all t ≡ true) → AllByRecursion (λ t. has term_cmp all t ≡ true) xs
each_had all [] f = tt
each_had all (x ∷ xs) f = (
  f x (λ i. is_eq (tied_itself term_total x i) || has term_cmp xs x),
  each_had all xs (λ t e. f t (ap (λ b. eq_by_cmp term_cmp t x || b) e ∙ or_true (eq_by_cmp term_cmp t x))),
)
  where
    or_true : (b : Bool) → (b || true) ≡ true
    or_true true = refl
    or_true false = refl

-- each term of the quad is one of these
abbrev Knows : List Term → Statement → Type 0
Knows terms q = AllByRecursion (λ t. has term_cmp terms t ≡ true) (quad_terms q)

-- the terms of each view's quads are terms of the views
views_known : (views : List (List Statement)) → AllByRecursion (λ view. AllByRecursion (Knows (terms_of views)) view) views
unfolding terms_of
views_known views =
    let quads : List Statement = flat_map (λ view. view) views in
    let terms : List Term = flat_map quad_terms quads in
    let all = each_had (terms_of views) terms (λ t e. has-sorted_set term_total term_exact terms t ∙ e) in
    each-piece (Knows (terms_of views)) (λ view. view) views (each-piece (λ t. has term_cmp (terms_of views) t ≡ true) quad_terms quads all)

-- so are those of a pattern's view
view_known : (views : List (List Statement)) (n : ℕ) → AllByRecursion (Knows (terms_of views)) (view_of views n)
view_known views n = each-at (AllByRecursion (Knows (terms_of views))) [] tt views (cond (length views == 1) 0 n) (views_known views)

-- a value that is one of the terms
known_value : (terms : List Term) (value : Option Term) (t : Term) → is_term value t ≡ true → has term_cmp terms t ≡ true → is_known terms value ≡ true
known_value terms None t e h = cc
known_value terms (Some u) t e h = subst (λ v. has term_cmp terms v ≡ true) (sym (term_exact u t (Equal_of (term_cmp u t) e))) h

module _ (names : List Slot) (row : List (Option Term)) (terms : List Term) where
  -- the row gives the unknown one of the terms
  abbrev pub IsGiven : Slot → Type 0
  IsGiven x = is_known terms (value_at names row x) ≡ true

  -- where a slot's value is a known term, its unknown is given
  given_slot : (x : Slot) (t : Term) → is_term (value_of names row x) t ≡ true → has term_cmp terms t ≡ true → AllByRecursion IsGiven (unknown_in x)
  given_slot (Var x) t e h = (known_value terms (value_at names row (Var x)) t e h, tt)
  given_slot (Blank x) t e h = (known_value terms (value_at names row (Blank x)) t e h, tt)
  given_slot (Fixed u) t e h = tt

  -- where a graph is in scope, the unknown of GRAPH is given
  given_scope : (g : Scope) (c : Graph) → is_in_scope names row g c ≡ true → AllByRecursion (λ t. has term_cmp terms t ≡ true) (graph_terms c) → AllByRecursion IsGiven (scope_unknown g)
  given_scope scope.Any c e h = tt
  given_scope (scope.Graph x) Absent e h = cc
  given_scope (scope.Graph x) (Named t) e h = given_slot x t e h.0

  -- a quad that is the pattern's instance gives all its unknowns
  given_instance : (p : TriplePattern) (q : Statement) → is_instance names row p q ≡ true → Knows terms q → AllByRecursion IsGiven (standing_in p)
  unfolding is_instance
  given_instance p q e h =
      let a = both _ _ e in
      let b = both _ _ a.1 in
      let d = both _ _ b.1 in
      let end = each-append IsGiven (unknown_in p.p) (unknown_in p.o) (given_slot p.p q.p b.0 h.1.0) (given_slot p.o q.o d.0 h.1.1.0) in
      let triple = each-append IsGiven (unknown_in p.s) (unknown_in p.p ++ unknown_in p.o) (given_slot p.s q.s a.0 h.0) end in
      each-append IsGiven (scope_unknown p.g) (unknown_in p.s ++ (unknown_in p.p ++ unknown_in p.o)) (given_scope p.g q.c d.1 h.1.1.1) triple

-- where each pattern is found, the row gives all that stands in them terms of the views
given_from : (views : List (List Statement)) (names : List Slot) (row : List (Option Term)) (n : ℕ) (patterns : List TriplePattern)
    → list_all (is_found names row) (map (lookup_of views) (enumerate_from n patterns)) ≡ true
    → AllByRecursion (IsGiven names row (terms_of views)) (flat_map standing_in patterns)
given_from views names row n [] e = tt
given_from views names row n (p ∷ patterns) e =
    let parts = both (is_found names row (lookup_of views (n, p))) _ e in
    let known = view_known views n in
    let here = some_passes (Knows (terms_of views)) (is_instance names row p) (view_of views n) parts.0 known (given_instance names row (terms_of views) p) in
    let later = given_from views names row (n + 1) patterns parts.1 in
    each-append (IsGiven names row (terms_of views)) (standing_in p) (flat_map standing_in patterns) here later

-- values that are all known fit
values_fit : (names : List Slot) (terms : List Term) (value : Slot → Option Term) → AllByRecursion (λ x. is_known terms (value x) ≡ true) names
    → fits names terms (map value names) ≡ true
values_fit [] terms value a = refl
values_fit (name ∷ names) terms value a = λ i. a.0 i && values_fit names terms value a.1 i

-- a row of the right length that makes each pattern found fits
long_fits : (patterns : List TriplePattern) (views : List (List Statement)) (row : List (Option Term)) → (length row == length (unknowns patterns)) ≡ true
    → list_all (is_found (unknowns patterns) row) (lookups views patterns) ≡ true → fits (unknowns patterns) (terms_of views) row ≡ true
unfolding lookups
long_fits patterns views row long found =
    let names : List Slot = unknowns patterns in
    let given = each-unknown (IsGiven names row (terms_of views)) patterns (given_from views names row 0 patterns found) in
    subst (λ r. fits names (terms_of views) r ≡ true) (values-row names row (unknowns-apart patterns) (eqb-true _ _ long))
    (values_fit names (terms_of views) (value_at names row) given)

-- one item more of both
one_longer : (m n : ℕ) → m ≡ n → suc m ≡ suc n
one_longer m n e = omega arith

-- a row that fits is as long as the unknowns
fits_long : (names : List Slot) (terms : List Term) (row : List (Option Term)) → fits names terms row ≡ true → length row ≡ length names
fits_long [] terms [] e = refl
fits_long [] terms (value ∷ row) e = cc
fits_long (name ∷ names) terms [] e = cc
fits_long (name ∷ names) terms (value ∷ row) e = one_longer (length row) (length names) (fits_long names terms row (both (is_known terms value) _ e).1)

-- tests whether each pattern is found, whether the row is long enough and whether it fits, of which the last two agree where the first passes
agree : (found long fit : Bool) (m n : ℕ) → (long ≡ true → found ≡ true → fit ≡ true) → (fit ≡ true → long ≡ true)
    → cond found (cond fit m n) n ≡ cond (long && found) m n
agree true true true m n f g = refl
agree true true false m n f g = let clash : false ≡ true = f refl refl in cc
agree true false true m n f g = let clash : false ≡ true = g refl in cc
agree true false false m n f g = refl
agree false true fit m n f g = refl
agree false false fit m n f g = refl

-- the terms of the views are distinct
terms_apart : (views : List (List Statement)) → IsDistinct (eq_by_cmp term_cmp) (terms_of views)
unfolding terms_of
terms_apart views =
    let terms : List Term = flat_map quad_terms (flat_map (λ view. view) views) in
    IsDistinct-from_sorted term_cmp (terms_of views) (sorted_set-sorted term_total term_exact terms)

-- each solution is there once
pub each_once : EachSolutionOnce
unfolding solutions
each_once patterns views row =
    let names : List Slot = unknowns patterns in
    let terms : List Term = terms_of views in
    let test : List (Option Term) → Bool = eq_by_cmp row_cmp row in
    let found : List (Option Term) → Bool = λ r. list_all (is_found names r) (lookups views patterns) in
    let all : List (List (Option Term)) = assignments names terms in
    count_is test (solutions patterns views)
    ∙ count-filter test found row (λ r e. row_exact row r (Equal_of (row_cmp row r) e)) all
    ∙ ap (λ n. cond (found row) n 0) (count-assignments names terms (terms_apart views) row)
    ∙ agree (found row) (length row == length names) (fits names terms row) 1 0 (λ l f. long_fits patterns views row l f)
    (λ e. eq-eqb (length row) (length names) (fits_long names terms row e))
