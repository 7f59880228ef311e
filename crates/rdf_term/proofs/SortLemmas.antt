-- A list in order is known by its items, and `sorted_list` makes the one with given items.
use Rattle.std.proofs.Common.{◌≡◌, ℕ, suc, ◌+◌, ◌<◌, ◌≤◌, true, false, List, [], ◌∷◌, length, fold, refl, sym, ap, subst, ◌∙◌, arith}
use Rattle.std.specs.Prelude.{slice_index_or}
use Rattle.std.specs.List.{AllByRecursion, sum_by}
use Rattle.std.specs.List.Sorted.{IsSorted, IsPermutation}
use Rattle.std.specs.Ordering.{is_lt, match_ordering, ordering_reverse}
use Rattle.std.specs.Cmp.{IsTotalOrder, IsStrictWeakOrder}
use Rattle.std.specs.declared.cmp.Ordering.{Ordering}
use Rattle.std.specs.declared.cmp.Ordering.TheVariants.{Less, Equal, Greater}
use Rattle.std.proofs.lemmas.Cmp.{tied_itself}
use Rattle.std.proofs.lemmas.List.Sorted.{ranks_by, sum_by-IsPermutation}
use Rattle.std.proofs.lemmas.List.Sums.{sum_by-cons}
use Rattle.std.proofs.lemmas.Map.Lookups.{CmpEqualImpliesEq}
use Rattle.rdf_term.specs.Sets.{insert_item, sorted_list}
use Rattle.rdf_term.proofs.SetLemmas.{by_order}

abbrev one : Ordering → ℕ
one Less = 0
one Equal = 1
one Greater = 0

module _ {K : Type 0} {R : K → K → Ordering} (o : IsTotalOrder R) (exact : CmpEqualImpliesEq R) where
  -- how often q is an item
  abbrev count : K → List K → ℕ
  count q [] = 0
  count q (x ∷ xs) = one (R q x) + count q xs

  count_is : (q : K) (xs : List K) → count q xs ≡ sum_by (λ x. one (R q x)) xs
  count_is q [] = refl
  count_is q (x ∷ xs) = ap (λ n. one (R q x) + n) (count_is q xs) ∙ sym (sum_by-cons (λ y. one (R q y)) x xs)

  -- no later item is below an earlier one
  abbrev Rises : List K → Type 0
  Rises [] = Unit {0}
  Rises (x ∷ xs) = AllByRecursion (λ y. is_lt (R y x) ≡ false) xs × Rises xs

  turned : (x y : K) → R x y ≡ Greater → R y x ≡ Less
  turned x y e = o.antisymm y x ∙ ap ordering_reverse e

  not_below : (x y : K) → R x y ≡ Less → is_lt (R y x) ≡ false
  not_below x y e = ap is_lt (o.antisymm y x ∙ ap ordering_reverse e)

  below_next : (x y z : K) → R x y ≡ Less → is_lt (R z y) ≡ false → R x z ≡ Less
  below_next x y z e h = by_order (R z y)
      (λ l. let f : true ≡ false = sym (ap is_lt l) ∙ h in cc)
      (λ l. let same : z ≡ y = exact z y l in subst (λ v. R x v ≡ Less) (sym same) e)
      (λ l. o.trans x y z e (turned z y l))

  -- lists in order with the same items are equal

  none_later : (x y : K) (ys : List K) → R x y ≡ Less → AllByRecursion (λ z. is_lt (R z y) ≡ false) ys → count x ys ≡ 0
  none_later x y [] e a = refl
  none_later x y (z ∷ zs) e a = λ i. one (below_next x y z e a.0 i) + none_later x y zs e a.1 i

  none : (x y : K) (ys : List K) → R x y ≡ Less → AllByRecursion (λ z. is_lt (R z y) ≡ false) ys → count x (y ∷ ys) ≡ 0
  none x y ys e a = λ i. one (e i) + none_later x y ys e a i

  some : (x : K) (xs : List K) → count x (x ∷ xs) ≡ 1 + count x xs
  some x xs = λ i. one (tied_itself o x i) + count x xs

  more : (n : ℕ) → 1 + n ≡ 0 → ⊥
  more n e = absurd (omega arith)

  cancel : (a b m n : ℕ) → a ≡ b → a + m ≡ b + n → m ≡ n
  cancel a b m n e h = omega arith

  same_list : (xs ys : List K) → Rises xs → Rises ys → ((q : K) → count q xs ≡ count q ys) → xs ≡ ys
  same_list [] [] s t h = refl
  same_list [] (y ∷ ys) s t h = absurd (more (count y ys) (sym (some y ys) ∙ sym (h y)))
  same_list (x ∷ xs) [] s t h = absurd (more (count x xs) (sym (some x xs) ∙ h x))
  same_list (x ∷ xs) (y ∷ ys) s t h = by_order (R x y)
      (λ l. absurd (more (count x xs) (sym (some x xs) ∙ h x ∙ none x y ys l t.0)))
      (λ l. let first : x ≡ y = exact x y l in
      let rest : xs ≡ ys = same_list xs ys s.1 t.1 (λ q. cancel (one (R q x)) (one (R q y)) (count q xs) (count q ys) (ap (λ v. one (R q v)) first) (h q)) in
      (λ i. first i ∷ rest i))
      (λ l. absurd (more (count y ys) (sym (some y ys) ∙ sym (h y) ∙ none y x xs (turned x y l) s.0)))

  -- one item more

  moved : (a b m n : ℕ) → n ≡ a + m → b + n ≡ a + (b + m)
  moved a b m n e = omega arith

  count-insert_item : (xs : List K) (k q : K) → count q (insert_item R xs k) ≡ one (R q k) + count q xs
  count-insert_item [] k q = refl
  count-insert_item (x ∷ xs) k q = at (R k x) (count-insert_item xs k q)
    where
      at : (r : Ordering) → count q (insert_item R xs k) ≡ one (R q k) + count q xs
          → count q (match_ordering r (k ∷ x ∷ xs) (k ∷ x ∷ xs) (x ∷ insert_item R xs k)) ≡ one (R q k) + count q (x ∷ xs)
      at Less rest = refl
      at Equal rest = refl
      at Greater rest = moved (one (R q k)) (one (R q x)) (count q xs) (count q (insert_item R xs k)) rest

  all-insert_item : (P : K → Type 0) (xs : List K) (k : K) → AllByRecursion P xs → P k → AllByRecursion P (insert_item R xs k)
  all-insert_item P [] k a p = (p, tt)
  all-insert_item P (x ∷ xs) k a p = at (R k x) (all-insert_item P xs k a.1 p)
    where
      at : (r : Ordering) → AllByRecursion P (insert_item R xs k) → AllByRecursion P (match_ordering r (k ∷ x ∷ xs) (k ∷ x ∷ xs) (x ∷ insert_item R xs k))
      at Less rest = (p, a)
      at Equal rest = (p, a)
      at Greater rest = (a.0, rest)

  all_above : (k x : K) (zs : List K) → R k x ≡ Less → AllByRecursion (λ z. is_lt (R z x) ≡ false) zs → AllByRecursion (λ z. is_lt (R z k) ≡ false) zs
  all_above k x [] e a = tt
  all_above k x (z ∷ zs) e a = (not_below k z (below_next k x z e a.0), all_above k x zs e a.1)

  rises-insert_item : (xs : List K) (k : K) → Rises xs → Rises (insert_item R xs k)
  rises-insert_item [] k s = (tt, tt)
  rises-insert_item (x ∷ xs) k s = at (R k x) refl (rises-insert_item xs k s.1)
    where
      at : (r : Ordering) → R k x ≡ r → Rises (insert_item R xs k) → Rises (match_ordering r (k ∷ x ∷ xs) (k ∷ x ∷ xs) (x ∷ insert_item R xs k))
      at Less e rest = ((not_below k x e, all_above k x xs e s.0), s)
      at Equal e rest = subst (λ v. Rises (v ∷ x ∷ xs)) (sym (exact k x e)) ((ap is_lt (tied_itself o x), s.0), s)
      at Greater e rest = (all-insert_item (λ y. is_lt (R y x) ≡ false) xs k s.0 (ap is_lt e), rest)

  -- all items

  rises_from : (acc xs : List K) → Rises acc → Rises (fold (λ s x. insert_item R s x) acc xs)
  rises_from acc [] s = s
  rises_from acc (x ∷ xs) s = rises_from (insert_item R acc x) xs (rises-insert_item acc x s)

  around : (a m n k r : ℕ) → k ≡ a + n → r ≡ m + k → r ≡ (a + m) + n
  around a m n k r e h = omega arith

  count_from : (acc xs : List K) (q : K) → count q (fold (λ s x. insert_item R s x) acc xs) ≡ count q xs + count q acc
  count_from acc [] q = let z : (n : ℕ) → n ≡ 0 + n = λ n. omega arith in z (count q acc)
  count_from acc (x ∷ xs) q =
      around (one (R q x)) (count q xs) (count q acc) (count q (insert_item R acc x)) _ (count-insert_item acc x q)
      (count_from (insert_item R acc x) xs q)

  count-sorted_list : (xs : List K) (q : K) → count q (sorted_list R xs) ≡ count q xs
  count-sorted_list xs q = let z : (n : ℕ) → n + 0 ≡ n = λ n. omega arith in count_from [] xs q ∙ z (count q xs)

  -- what a sort ensures

  tail_sorted : (x : K) (xs : List K) → IsSorted R (x ∷ xs) → IsSorted R xs
  tail_sorted x xs h k d l m =
      let next : suc k + 1 ≡ suc (k + 1) = omega arith in
      let low : 0 ≤ suc k = omega arith in
      let high : suc k + 1 < length (x ∷ xs) = omega arith in
      subst (λ n. is_lt (R (slice_index_or (x ∷ xs) n d) (slice_index_or xs k d)) ≡ false) next (h (suc k) d low high)

  all_chain : (x y : K) (zs : List K) → AllByRecursion (λ z. is_lt (R z y) ≡ false) zs → is_lt (R y x) ≡ false → AllByRecursion (λ z. is_lt (R z x) ≡ false) zs
  all_chain x y [] a h = tt
  all_chain x y (z ∷ zs) a h =
      let weak : IsStrictWeakOrder (λ a b. is_lt (R a b)) = ranks_by o (λ a. a) in
      (weak.chain z y x a.0 h, all_chain x y zs a.1 h)

  rises_of : (xs : List K) → IsSorted R xs → Rises xs
  rises_of [] h = tt
  rises_of (x ∷ []) h = (tt, tt)
  rises_of (x ∷ y ∷ ys) h =
      let rest = rises_of (y ∷ ys) (tail_sorted x (y ∷ ys) h) in
      let low : 0 ≤ 0 = omega arith in
      let high : 0 + 1 < length (x ∷ y ∷ ys) = omega arith in
      let first : is_lt (R y x) ≡ false = h 0 x low high in
      ((first, all_chain x y ys rest.0 first), rest)

  -- a list in order with the items of another is what sorting that gives
  pub sorted_list-is : (xs ys : List K) → IsPermutation xs ys → IsSorted R ys → ys ≡ sorted_list R xs
  sorted_list-is xs ys p s = same_list ys (sorted_list R xs) (rises_of ys s) (rises_from [] xs tt)
      (λ q. count_is q ys ∙ sum_by-IsPermutation (λ x. one (R q x)) xs ys p ∙ sym (count_is q xs) ∙ sym (count-sorted_list xs q))

  -- lists with the same items are one list once they are in order
  pub sorted_list-same : (xs ys : List K) → IsPermutation xs ys → sorted_list R xs ≡ sorted_list R ys
  sorted_list-same xs ys p = same_list (sorted_list R xs) (sorted_list R ys) (rises_from [] xs tt) (rises_from [] ys tt)
      (λ q. count-sorted_list xs q ∙ count_is q xs ∙ sym (sum_by-IsPermutation (λ x. one (R q x)) xs ys p) ∙ sym (count_is q ys) ∙ sym (count-sorted_list ys q))
