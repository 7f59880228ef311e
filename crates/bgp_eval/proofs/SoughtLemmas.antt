-- The ways in which the steps of patterns go on from a row without values are the solutions of the patterns.
use Rattle.std.proofs.Common.{◌≡◌, ◌==◌, ℕ, ◌+◌, ◌<◌, List, [], ◌∷◌, ◌++◌, Bool, true, false, not, ◌&&◌, ◌||◌, cond, Option, Some, None, refl, sym, ap, subst, ◌∙◌, if◌then◌else◌, length, map, filter, take, replicate}
use Rattle.std.proofs.Math.Dec.{eqb-suc-suc, eqb-suc-zero, eqb-zero-suc}
use Rattle.std.specs.List.{AllByRecursion, enumerate_from, flat_map, list_all, list_any}
use Rattle.std.specs.List.Sorted.{IsPermutation}
use Rattle.std.specs.Option.{is_some}
use Rattle.std.specs.Ordering.{eq_by_cmp, is_eq, ordering_then}
use Rattle.std.specs.declared.cmp.Ordering.{Ordering}
use Rattle.std.specs.declared.cmp.Ordering.TheVariants.{Less, Equal, Greater}
use Rattle.std.proofs.lemmas.List.Sorted.{list_any-IsPermutation}
use Rattle.rdf_term.specs.declared.term.Term.{Term}
use Rattle.rdf_term.specs.declared.graph.Graph.{Graph}
use Rattle.rdf_term.specs.declared.graph.Graph.TheVariants.{Absent, Named}
use Rattle.rdf_term.specs.Statement.{Statement}
use Rattle.rdf_term.specs.Order.{row_cmp, term_cmp}
use Rattle.rdf_term.specs.OrderLaws.{row_exact, row_total}
use Rattle.query_model.specs.declared.query.Scope.{Scope}
use Rattle.query_model.specs.declared.query.Scope.TheVariants as scope
use Rattle.query_model.specs.declared.query.Slot.{Slot}
use Rattle.query_model.specs.declared.query.TriplePattern.{TriplePattern}
use Rattle.query_model.specs.Unknowns.{unknowns}
use Rattle.query_model.specs.Solutions.{assignments, is_found, is_in_scope, is_instance, is_term, lookup_of, lookups, solutions, terms_of}
use Rattle.query_model.specs.Laws.{EachSolutionOnce, is_solution}
use Rattle.bgp_eval.specs.declared.search.Wanted.{Wanted}
use Rattle.bgp_eval.specs.declared.step.Step.{Step}
use Rattle.bgp_eval.specs.Kept.{kept}
use Rattle.bgp_eval.specs.Sought.{IsSought}
use Rattle.bgp_eval.specs.Steps.{reach_of, step_of, search_steps}
use Rattle.bgp_eval.specs.Ways.{ways}
use Rattle.query_model.proofs.CountLemmas.{count, count_is, one_if, same_counts, split_at, stands, Split}
use Rattle.bgp_eval.proofs.AgreeLemmas.{agrees, fits_step, is_reached}
use Rattle.bgp_eval.proofs.NumberLemmas.{value_of-is}
use Rattle.bgp_eval.proofs.WaysLemmas.{count-ways, is_step_found, is_term-same}

-- lists

list_any-same : {X : Type 0} (p q : X → Bool) → ((x : X) → p x ≡ q x) → (xs : List X) → list_any p xs ≡ list_any q xs
list_any-same p q h [] = refl
list_any-same p q h (x ∷ xs) = λ i. h x i || list_any-same p q h xs i

list_all-maps : {X Y Z : Type 0} (p : Y → Bool) (f : X → Y) (q : Z → Bool) (g : X → Z) → ((x : X) → p (f x) ≡ q (g x)) → (xs : List X) → list_all p (map f xs) ≡ list_all q (map g xs)
list_all-maps p f q g h [] = refl
list_all-maps p f q g h (x ∷ xs) = λ i. h x i && list_all-maps p f q g h xs i

all_as_any : {X : Type 0} (p : X → Bool) (xs : List X) → list_all p xs ≡ not (list_any (λ x. not (p x)) xs)
all_as_any p [] = refl
all_as_any p (x ∷ xs) = ap (λ b. p x && b) (all_as_any p xs) ∙ at (p x) (list_any (λ x. not (p x)) xs)
  where
    at : (b c : Bool) → (b && not c) ≡ not (not b || c)
    at true c = refl
    at false c = refl

list_all-permutation : {X : Type 0} (p : X → Bool) (xs ys : List X) → IsPermutation xs ys → list_all p xs ≡ list_all p ys
list_all-permutation p xs ys h = all_as_any p xs ∙ ap not (list_any-IsPermutation (λ x. not (p x)) xs ys h) ∙ sym (all_as_any p ys)

count-same : {X : Type 0} (p q : X → Bool) (xs : List X) → AllByRecursion (λ x. p x ≡ q x) xs → count p xs ≡ count q xs
count-same p q [] a = refl
count-same p q (x ∷ xs) a = λ i. one_if (a.0 i) + count-same p q xs a.1 i

-- what holds of an item wherever it stands holds of each
each : {X : Type 0} (P : X → Type 0) (xs : List X) → ((before : List X) (x : X) (after : List X) → xs ≡ before ++ x ∷ after → P x) → AllByRecursion P xs
each P [] h = tt
each P (x ∷ xs) h = (h [] x xs refl, each P xs (λ b y a e. h (x ∷ b) y a (ap (λ zs. x ∷ zs) e)))

all-append : {X : Type 0} (P : X → Type 0) (xs ys : List X) → AllByRecursion P xs → AllByRecursion P ys → AllByRecursion P (xs ++ ys)
all-append P [] ys a b = b
all-append P (x ∷ xs) ys a b = (a.0, all-append P xs ys a.1 b)

all-at : {X : Type 0} (P : X → Type 0) (before : List X) (x : X) (after : List X) → AllByRecursion P (before ++ x ∷ after) → P x
all-at P [] x after a = a.0
all-at P (y ∷ before) x after a = all-at P before x after a.1

all-filter : {X : Type 0} (P : X → Type 0) (p : X → Bool) (xs : List X) → AllByRecursion P xs → AllByRecursion P (filter p xs)
all-filter P p [] a = tt
all-filter P p (x ∷ xs) a = at (p x) (all-filter P p xs a.1)
  where
    at : (b : Bool) → AllByRecursion P (filter p xs) → AllByRecursion P (cond b (x ∷ filter p xs) (filter p xs))
    at true rest = (a.0, rest)
    at false rest = rest

-- solutions give each unknown a term

abbrev IsWhole : List (Option Term) → Type 0
IsWhole row = list_all is_some row ≡ true

with_first : (t : Term) (rows : List (List (Option Term))) → AllByRecursion IsWhole rows → AllByRecursion IsWhole (map (λ row. Some t ∷ row) rows)
with_first t [] a = tt
with_first t (row ∷ rows) a = (a.0, with_first t rows a.1)

whole-assignments : (names : List Slot) (terms : List Term) → AllByRecursion IsWhole (assignments names terms)
whole-assignments [] terms = (refl, tt)
whole-assignments (name ∷ names) terms = go terms (whole-assignments names terms)
  where
    go : (ts : List Term) → AllByRecursion IsWhole (assignments names terms) → AllByRecursion IsWhole (flat_map (λ t. map (λ row. Some t ∷ row) (assignments names terms)) ts)
    go [] a = tt
    go (t ∷ ts) a = all-append IsWhole (map (λ row. Some t ∷ row) (assignments names terms)) _ (with_first t (assignments names terms) a) (go ts a)

whole-solutions : (patterns : List TriplePattern) (views : List (List Statement)) → AllByRecursion IsWhole (solutions patterns views)
unfolding solutions
whole-solutions patterns views = all-filter IsWhole _ (assignments (unknowns patterns) (terms_of views)) (whole-assignments (unknowns patterns) (terms_of views))

-- a row agrees with a whole one where it is this one
agrees-whole : (q r : List (Option Term)) → IsWhole r → agrees q r ≡ eq_by_cmp row_cmp q r
agrees-whole [] [] h = refl
agrees-whole [] (x ∷ r) h = refl
agrees-whole (v ∷ q) [] h = refl
agrees-whole (v ∷ q) (None ∷ r) h = cc
agrees-whole (v ∷ q) (Some t ∷ r) h = ap (λ b. is_term v t && b) (agrees-whole q r h) ∙ at v
  where
    both_equal : (a b : Ordering) → (is_eq a && is_eq b) ≡ is_eq (ordering_then a b)
    both_equal Less b = refl
    both_equal Equal b = refl
    both_equal Greater b = refl

    at : (v : Option Term) → (is_term v t && eq_by_cmp row_cmp q r) ≡ eq_by_cmp row_cmp (v ∷ q) (Some t ∷ r)
    at None = refl
    at (Some u) = both_equal (term_cmp u t) (row_cmp q r)

agrees-itself : (r : List (Option Term)) → agrees r r ≡ true
agrees-itself [] = refl
agrees-itself (None ∷ r) = agrees-itself r
agrees-itself (Some t ∷ r) = λ i. is_term-same t i && agrees-itself r i

-- each row of this length agrees with a row without values
agrees-unbound : (row : List (Option Term)) (names : List Slot) → agrees row (replicate (length names) None) ≡ (length row == length names)
agrees-unbound [] [] = refl
agrees-unbound [] (name ∷ names) = sym (eqb-zero-suc (length names))
agrees-unbound (v ∷ row) [] = sym (eqb-suc-zero (length row))
agrees-unbound (v ∷ row) (name ∷ names) = agrees-unbound row names ∙ sym (eqb-suc-suc (length row) (length names))

-- a step finds a quad where its pattern does

instance-is : (names : List Slot) (row : List (Option Term)) (views : ℕ) (x : ℕ × TriplePattern) (q : Statement) → is_instance names row x.1 q ≡ fits_step row (step_of names views x) q
unfolding is_instance
instance-is names row views x q =
    (λ i. is_term (value_of-is names row x.1.s i) q.s && (is_term (value_of-is names row x.1.p i) q.p && (is_term (value_of-is names row x.1.o i) q.o && at x.1.g q.c i)))
  where
    at : (g : Scope) (c : Graph) → is_in_scope names row g c ≡ is_reached row (reach_of names g) c
    at scope.Any c = refl
    at (scope.Graph y) Absent = refl
    at (scope.Graph y) (Named t) = ap (λ v. is_term v t) (value_of-is names row y)

found-is : (names : List Slot) (row : List (Option Term)) (views : List (List Statement)) (patterns : List TriplePattern)
    → list_all (is_found names row) (lookups views patterns) ≡ list_all (is_step_found views row) (search_steps names (length views) patterns)
unfolding lookups
found-is names row views patterns =
    list_all-maps (is_found names row) (lookup_of views) (is_step_found views row) (step_of names (length views))
    (λ x. list_any-same (is_instance names row x.1) (fits_step row (step_of names (length views) x)) (instance-is names row (length views) x) _)
    (enumerate_from 0 patterns)

module _ (once : EachSolutionOnce) (patterns : List TriplePattern) (views : List (List Statement)) (plan : List Step)
    (planned : IsPermutation (search_steps (unknowns patterns) (length views) patterns) plan) where
  count-solutions : (q : List (Option Term)) → count (eq_by_cmp row_cmp q) (solutions patterns views) ≡ one_if (is_solution patterns views q)
  count-solutions q = sym (count_is (eq_by_cmp row_cmp q) (solutions patterns views)) ∙ once patterns views q ∙ at (is_solution patterns views q)
    where
      at : (b : Bool) → (if b then 1 else 0) ≡ one_if b
      at true = refl
      at false = refl

  count-agreeing : (q : List (Option Term)) → count (agrees q) (ways views plan (replicate (length (unknowns patterns)) None)) ≡ one_if (is_solution patterns views q)
  count-agreeing q =
      count-ways views q plan (replicate (length (unknowns patterns)) None)
      ∙ (λ i. one_if (agrees-unbound q (unknowns patterns) i && (sym (list_all-permutation (is_step_found views q) _ plan planned) ∙ sym (found-is (unknowns patterns) q views patterns)) i))

  -- each way is whole
  whole-ways : AllByRecursion IsWhole (ways views plan (replicate (length (unknowns patterns)) None))
  whole-ways = each IsWhole (ways views plan (replicate (length (unknowns patterns)) None)) (λ before r after is.
      let counted : 0 < count (agrees r) (before ++ r ∷ after) = stands (agrees r) before r after (agrees-itself r) in
      let number : count (agrees r) (before ++ r ∷ after) ≡ count (eq_by_cmp row_cmp r) (solutions patterns views) = ap (count (agrees r)) (sym is) ∙ count-agreeing r ∙ sym (count-solutions r) in
      let s : Split r (solutions patterns views) = split_at row_total row_exact r (solutions patterns views) (subst (λ n. 0 < n) number counted) in
      all-at IsWhole s.before r s.after (subst (AllByRecursion IsWhole) s.is (whole-solutions patterns views)))

  all-agree : (q : List (Option Term)) (rows : List (List (Option Term))) → AllByRecursion IsWhole rows → AllByRecursion (λ r. eq_by_cmp row_cmp q r ≡ agrees q r) rows
  all-agree q [] a = tt
  all-agree q (r ∷ rows) a = (sym (agrees-whole q r a.0), all-agree q rows a.1)

  -- the ways are the solutions
  pub ways-are : IsPermutation (solutions patterns views) (ways views plan (replicate (length (unknowns patterns)) None))
  ways-are = same_counts row_total row_exact (solutions patterns views) (ways views plan (replicate (length (unknowns patterns)) None))
      (λ q. count-solutions q ∙ sym (count-agreeing q)
      ∙ sym (count-same (eq_by_cmp row_cmp q) (agrees q) (ways views plan (replicate (length (unknowns patterns)) None)) (all-agree q _ whole-ways)))

-- What a search finds that goes on from a row without values.
pub sought : EachSolutionOnce → (wanted : Wanted) (group : List TriplePattern) (views : List (List Statement)) (named : List Slot) (steps plan : List Step) (from : List (Option Term))
    (old rows : List (List (Option Term))) → named ≡ unknowns group → steps ≡ search_steps named (length views) group → IsPermutation steps plan → from ≡ replicate (length named) None → old ≡ []
    → rows ≡ take (wanted.most + 1) (old ++ map (kept wanted.kept) (ways views plan from)) → IsSought wanted group views rows
sought once wanted group views named steps plan from old rows names-are steps-are planned start-is old-is found =
    let right : IsPermutation (search_steps (unknowns group) (length views) group) plan = subst (λ s. IsPermutation s plan) (steps-are ∙ ap (λ n. search_steps n (length views) group) names-are) planned in
    record {
      all = ways views plan (replicate (length (unknowns group)) None);
      solutions = ways-are once group views plan right;
      kept = found ∙ (λ i. take (wanted.most + 1) (old-is i ++ map (kept wanted.kept) (ways views plan ((start-is ∙ ap (λ n. replicate (length n) None) names-are) i))));
    }
