-- What is found, in words of the solutions.
use Rattle.std.proofs.Common.{◌≡◌, ℕ, ◌+◌, suc, Bool, true, false, cond, ◌||◌, List, [], ◌∷◌, Option, Some, None, fold, map, flat_map, length, min, nat_lt, refl, sym, ap, ◌∙◌, arith, if◌then◌else◌}
use Rattle.std.specs.List.{AllByRecursion, cons_option, filter_map, list_any}
use Rattle.std.specs.List.Sorted.{IsStrictlySortedBy}
use Rattle.std.specs.Cmp.{IsTotalOrder}
use Rattle.std.specs.Ordering.{eq_by_cmp, is_eq, match_ordering}
use Rattle.std.specs.declared.cmp.Ordering.{Ordering}
use Rattle.std.specs.declared.cmp.Ordering.TheVariants.{Less, Equal, Greater}
use Rattle.std.proofs.lemmas.Cmp.{tied_itself}
use Rattle.std.proofs.lemmas.Bool.Decides.{nat_tests}
use Rattle.std.proofs.lemmas.List.Folds.{list_any-append}
use Rattle.std.proofs.lemmas.Map.Lookups.{CmpEqualImpliesEq}
use Rattle.rdf_term.specs.declared.term.Term.{Term}
use Rattle.rdf_term.specs.Statement.{Statement}
use Rattle.rdf_term.specs.Order.{quad_cmp, row_cmp}
use Rattle.rdf_term.specs.OrderLaws.{quad_exact, quad_total, row_exact, row_total}
use Rattle.rdf_term.specs.Sets.{insert_item, rows_in_order, sorted_list, sorted_set}
use Rattle.rdf_term.proofs.SetLemmas.{has, has-sorted_set, sorted_set-sorted}
use Rattle.query_model.specs.declared.query.TriplePattern.{TriplePattern}
use Rattle.query_model.specs.declared.found.Found.TheVariants as answer
use Rattle.query_model.specs.Unknowns.{unknowns}
use Rattle.query_model.specs.Solutions.{solutions}
use Rattle.query_model.specs.Found.{constructed, cut_rows, made_of, projection, selected}
use Rattle.query_model.specs.Laws.{RowsOfSolutions, TriplesOfSolutions, TruthOfSolutions, is_quad, is_solution}
use Rattle.query_model.proofs.CountLemmas.{count, count-map, count_is}
use Rattle.query_model.proofs.SolutionLemmas.{each_once}

turned : (a b n k : ℕ) → k ≡ a + n → b + k ≡ a + (b + n)
turned a b n k e = omega arith

around : (a m n k r : ℕ) → k ≡ a + n → r ≡ m + k → r ≡ (a + m) + n
around a m n k r e h = omega arith

module _ {K : Type 0} (R : K → K → Ordering) where
  -- an item that is put in its place
  count-insert_item : (test : K → Bool) (xs : List K) (k : K) → count test (insert_item R xs k) ≡ cond (test k) 1 0 + count test xs
  count-insert_item test [] k = refl
  count-insert_item test (x ∷ xs) k = at (R k x) (count-insert_item test xs k)
    where
      at : (r : Ordering) → count test (insert_item R xs k) ≡ cond (test k) 1 0 + count test xs
          → count test (match_ordering r (k ∷ x ∷ xs) (k ∷ x ∷ xs) (x ∷ insert_item R xs k)) ≡ cond (test k) 1 0 + count test (x ∷ xs)
      at Less rest = refl
      at Equal rest = refl
      at Greater rest = turned (cond (test k) 1 0) (cond (test x) 1 0) (count test xs) (count test (insert_item R xs k)) rest

  count_from : (test : K → Bool) (acc xs : List K) → count test (fold (λ s x. insert_item R s x) acc xs) ≡ count test xs + count test acc
  count_from test acc [] = let z : (n : ℕ) → n ≡ 0 + n = λ n. omega arith in z (count test acc)
  count_from test acc (x ∷ xs) = around (cond (test x) 1 0) (count test xs) (count test acc) (count test (insert_item R acc x)) _ (count-insert_item test acc x) (count_from test (insert_item R acc x) xs)

  -- sorting changes no count
  count-sorted_list : (test : K → Bool) (xs : List K) → count test (sorted_list R xs) ≡ count test xs
  count-sorted_list test xs = let z : (n : ℕ) → n + 0 ≡ n = λ n. omega arith in count_from test [] xs ∙ z (count test xs)

-- a list counts an item at all where it has it
has-count : {K : Type 0} (R : K → K → Ordering) (q : K) (xs : List K) → has R xs q ≡ nat_lt 0 (count (eq_by_cmp R q) xs)
has-count R q [] = refl
has-count R q (x ∷ xs) = at (eq_by_cmp R q x) (has-count R q xs)
  where
    here : (n : ℕ) → true ≡ nat_lt 0 (1 + n)
    here n = grind (arith, nat_tests)

    later : (b : Bool) (n : ℕ) → b ≡ nat_lt 0 n → b ≡ nat_lt 0 (0 + n)
    later b n e = let z : (n : ℕ) → n ≡ 0 + n = λ n. omega arith in e ∙ ap (nat_lt 0) (z n)

    at : (b : Bool) → has R xs q ≡ nat_lt 0 (count (eq_by_cmp R q) xs) → (b || has R xs q) ≡ nat_lt 0 (cond b 1 0 + count (eq_by_cmp R q) xs)
    at true rest = here (count (eq_by_cmp R q) xs)
    at false rest = later (has R xs q) (count (eq_by_cmp R q) xs) rest

module _ {K : Type 0} {R : K → K → Ordering} (o : IsTotalOrder R) (exact : CmpEqualImpliesEq R) where
  none_above : (q x : K) (xs : List K) → R q x ≡ Equal → AllByRecursion (λ y. R x y ≡ Less) xs → count (eq_by_cmp R q) xs ≡ 0
  none_above q x [] e a = refl
  none_above q x (y ∷ ys) e a =
      let below : R q y ≡ Less = ap (λ z. R z y) (exact q x e) ∙ a.0 in
      (λ i. cond (is_eq (below i)) 1 0 + none_above q x ys e a.1 i)

  -- a set has each of its items once
  count-set : (q : K) (xs : List K) → IsStrictlySortedBy R xs → count (eq_by_cmp R q) xs ≡ cond (has R xs q) 1 0
  unfolding IsStrictlySortedBy
  count-set q [] s = refl
  count-set q (x ∷ xs) s = at (R q x) refl (count-set q xs s.1)
    where
      alone : (b : Bool) (n : ℕ) → n ≡ cond b 1 0 → 0 + n ≡ cond b 1 0
      alone b n e = let z : (n : ℕ) → 0 + n ≡ n = λ n. omega arith in z n ∙ e

      at : (r : Ordering) → R q x ≡ r → count (eq_by_cmp R q) xs ≡ cond (has R xs q) 1 0 → cond (is_eq r) 1 0 + count (eq_by_cmp R q) xs ≡ cond (is_eq r || has R xs q) 1 0
      at Less e rest = alone (has R xs q) (count (eq_by_cmp R q) xs) rest
      at Equal e rest = ap (λ n. 1 + n) (none_above q x xs e s.0)
      at Greater e rest = alone (has R xs q) (count (eq_by_cmp R q) xs) rest

one_at_most : (n : ℕ) → cond (nat_lt 0 n) 1 0 ≡ min 1 n
one_at_most n = grind (arith, nat_tests)

-- rows in order, each as often as it stands there, or once
count-ordered : (distinct : Bool) (rows : List (List (Option Term))) (row : List (Option Term))
    → count (eq_by_cmp row_cmp row) (if distinct then sorted_set row_cmp rows else rows_in_order rows)
    ≡ (if distinct then min 1 (count (eq_by_cmp row_cmp row) rows) else count (eq_by_cmp row_cmp row) rows)
count-ordered true rows row =
    count-set row_total row_exact row (sorted_set row_cmp rows) (sorted_set-sorted row_total row_exact rows)
    ∙ ap (λ b. cond b 1 0) (has-sorted_set row_total row_exact rows row ∙ has-count row_cmp row rows)
    ∙ one_at_most (count (eq_by_cmp row_cmp row) rows)
count-ordered false rows row = count-sorted_list row_cmp (eq_by_cmp row_cmp row) rows

pub rows_of : RowsOfSolutions
unfolding selected
rows_of distinct vars group views row =
    let test : List (Option Term) → Bool = eq_by_cmp row_cmp row in
    let column : List (Option Term) → List (Option Term) = projection (unknowns group) vars in
    let rows : List (List (Option Term)) = map column (solutions group views) in
    count_is test (if distinct then sorted_set row_cmp rows else rows_in_order rows)
    ∙ count-ordered distinct rows row
    ∙ ap (λ n. if distinct then min 1 n else n) (count-map test column (solutions group views) ∙ sym (count_is (λ solution. test (column solution)) (solutions group views)))

-- an ASK

-- the first of a list that has one
record First {K : Type 0} (xs : List K) : Type 0 where
  item : K
  rest : List K
  is : xs ≡ item ∷ rest

first_of_some : {K : Type 0} (xs : List K) → nat_lt 0 (length xs) ≡ true → First xs
first_of_some [] e = cc
first_of_some (x ∷ xs) e = record { item = x; rest = xs; is = refl }

some_of_one : {K : Type 0} (test : K → Bool) (xs : List K) → count test xs ≡ 1 → nat_lt 0 (length xs) ≡ true
some_of_one test [] e = absurd (omega arith)
some_of_one test (x ∷ xs) e = longer (length xs)
  where
    longer : (n : ℕ) → nat_lt 0 (suc n) ≡ true
    longer n = grind (arith, nat_tests)

counted_once : (b : Bool) (n k : ℕ) → n ≡ 1 + k → n ≡ (if b then 1 else 0) → b ≡ true
counted_once true n k e f = refl
counted_once false n k e f = absurd (omega arith)

truth : (a b : Bool) → Some (answer.Truth a) ≡ Some (answer.Truth b) → a ≡ b
truth a b e = cc

pub truth_of : TruthOfSolutions
truth_of group views most =
    let sols : List (List (Option Term)) = solutions group views in (
      λ e. let f = first_of_some sols (truth (nat_lt 0 (length sols)) true e) in
          let test : List (Option Term) → Bool = eq_by_cmp row_cmp f.item in
          let here : count test sols ≡ 1 + count test f.rest = ap (count test) f.is ∙ (λ i. cond (is_eq (tied_itself row_total f.item i)) 1 0 + count test f.rest) in
          (f.item, counted_once (is_solution group views f.item) (count test sols) (count test f.rest) here (sym (count_is test sols) ∙ each_once group views f.item)),
      λ s. let test : List (Option Term) → Bool = eq_by_cmp row_cmp s.0 in
          let one : count test sols ≡ 1 = sym (count_is test sols) ∙ each_once group views s.0 ∙ ap (λ b. if b then 1 else 0) s.1 in
          ap (λ b. Some (answer.Truth b)) (some_of_one test sols one),
    )

-- a CONSTRUCT

any-flat_map : {X Y : Type 0} (p : Y → Bool) (f : X → List Y) (xs : List X) → list_any p (flat_map f xs) ≡ list_any (λ x. list_any p (f x)) xs
any-flat_map p f [] = refl
any-flat_map p f (x ∷ xs) = list_any-append p (f x) (flat_map f xs) ∙ ap (λ b. list_any p (f x) || b) (any-flat_map p f xs)

any-made : (q : Statement) (f : TriplePattern → Option Statement) (ps : List TriplePattern) → list_any (eq_by_cmp quad_cmp q) (filter_map f ps) ≡ list_any (λ p. is_quad q (f p)) ps
any-made q f [] = refl
any-made q f (p ∷ ps) = at (f p) (any-made q f ps)
  where
    at : (o : Option Statement) → list_any (eq_by_cmp quad_cmp q) (filter_map f ps) ≡ list_any (λ p. is_quad q (f p)) ps
        → list_any (eq_by_cmp quad_cmp q) (cons_option o (filter_map f ps)) ≡ (is_quad q o || list_any (λ p. is_quad q (f p)) ps)
    at None rest = rest
    at (Some r) rest = ap (λ b. eq_by_cmp quad_cmp q r || b) rest

any-same : {X : Type 0} (p q : X → Bool) → ((x : X) → p x ≡ q x) → (xs : List X) → list_any p xs ≡ list_any q xs
any-same p q e [] = refl
any-same p q e (x ∷ xs) = λ i. e x i || any-same p q e xs i

pub triples_of : TriplesOfSolutions
unfolding constructed
triples_of template group cut views q =
    let made : List (Option Term) → List Statement = λ row. filter_map (made_of (unknowns group) row) template in
    let rows : List (List (Option Term)) = cut_rows cut (rows_in_order (solutions group views)) in
    has-sorted_set quad_total quad_exact (flat_map made rows) q
    ∙ any-flat_map (eq_by_cmp quad_cmp q) made rows
    ∙ any-same _ _ (λ row. any-made q (made_of (unknowns group) row) template) rows
