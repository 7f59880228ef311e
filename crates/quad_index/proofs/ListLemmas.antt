-- Sets of keys under a map, and what a filter leaves of them.
use Rattle.std.proofs.Common.{◌≡◌, ℕ, zero, suc, ◌+◌, ◌<◌, ◌≤◌, ◌⊎◌, inl, inr, arith, length, get_or, false, List, [], ◌∷◌, ◌++◌, map, take, refl, sym, ap, subst, ◌∙◌}
use Rattle.std.specs.List.{list_any, All, AllByRecursion}
use Rattle.std.specs.List.Sorted.{IsStrictlySortedBy, IsSorted, IsNonDecreasingBy, IsPartitionPoint}
use Rattle.std.specs.Ordering.{eq_by_cmp, is_eq, is_lt, match_ordering, ordering_index, ordering_reverse}
use Rattle.std.specs.Cmp.{IsTotalOrder}
use Rattle.std.specs.BTreeSet.{insert_key}
use Rattle.std.specs.declared.cmp.Ordering.{Ordering}
use Rattle.std.specs.declared.cmp.Ordering.TheVariants.{Less, Equal, Greater}
use Rattle.std.proofs.lemmas.Bool.{cases_lt}
use Rattle.std.proofs.lemmas.List.{take_more, map-append}
use Rattle.std.proofs.lemmas.List.Elements.{All-push}
use Rattle.std.proofs.lemmas.List.Folds.{list_any_none}
use Rattle.std.proofs.lemmas.List.Sorted.{searchable_from_sorted}

pub map-insert_key : {K L : Type 0} (f : K → L) (R : L → L → Ordering) (xs : List K) (k : K)
    → insert_key R (map f xs) (f k) ≡ map f (insert_key (λ x y. R (f x) (f y)) xs k)
map-insert_key f R [] k = refl
map-insert_key f R (x ∷ xs) k = at (map-insert_key f R xs k) (R (f k) (f x))
  where
    at : insert_key R (map f xs) (f k) ≡ map f (insert_key (λ x y. R (f x) (f y)) xs k) → (r : Ordering)
        → match_ordering r (f k ∷ f x ∷ map f xs) (f x ∷ map f xs) (f x ∷ insert_key R (map f xs) (f k)) ≡ map f (match_ordering r (k ∷ x ∷ xs) (x ∷ xs) (x ∷ insert_key (λ x y. R (f x) (f y)) xs k))
    at rest Less = refl
    at rest Equal = refl
    at rest Greater = ap (λ ys. f x ∷ ys) rest

all-map : {K L : Type 0} (f : K → L) (P : L → Type 0) (xs : List K) → AllByRecursion (λ x. P (f x)) xs → AllByRecursion P (map f xs)
all-map f P [] a = tt
all-map f P (x ∷ xs) a = (a.0, all-map f P xs a.1)

pub sorted-map : {K L : Type 0} (f : K → L) (R : L → L → Ordering) (xs : List K)
    → IsStrictlySortedBy (λ x y. R (f x) (f y)) xs → IsStrictlySortedBy R (map f xs)
unfolding IsStrictlySortedBy
sorted-map f R [] s = tt
sorted-map f R (x ∷ xs) s = (all-map f (λ y. R (f x) y ≡ Less) xs s.0, sorted-map f R xs s.1)

-- ---- a search by halves

pub all_at : {X : Type 0} (P : X → Type 0) (xs : List X) (i : ℕ) (d : X) → AllByRecursion P xs → i < length xs → P (get_or xs i d)
all_at P [] i d a l = absurd (omega arith)
all_at P (x ∷ xs) zero d a l = a.0
all_at P (x ∷ xs) (suc i) d a l = all_at P xs i d a.1 (omega arith)

pub rises_at : {K : Type 0} (R : K → K → Ordering) (xs : List K) (i j : ℕ) (d : K) → IsStrictlySortedBy R xs → i < j → j < length xs → R (get_or xs i d) (get_or xs j d) ≡ Less
unfolding IsStrictlySortedBy
rises_at R [] i j d s l b = absurd (omega arith)
rises_at R (x ∷ xs) i zero d s l b = absurd (omega arith)
rises_at R (x ∷ xs) zero (suc j) d s l b = all_at (λ y. R x y ≡ Less) xs j d s.0 (omega arith)
rises_at R (x ∷ xs) (suc i) (suc j) d s l b = rises_at R xs i j d s.1 (omega arith) (omega arith)

module _ {K : Type 0} {R : K → K → Ordering} (o : IsTotalOrder R) where
  pub sorted : (xs : List K) → IsStrictlySortedBy R xs → IsSorted R xs
  sorted xs s = λ k d low high. ap is_lt (o.antisymm (get_or xs (k + 1) d) (get_or xs k d) ∙ ap ordering_reverse (rises_at R xs k (k + 1) d s (omega arith) high))

  -- what a search by halves doesn't find isn't there
  pub absent : (xs : List K) (x : K) (i : ℕ) → IsStrictlySortedBy R xs
      → (IsNonDecreasingBy (λ y. ordering_index (R y x)) xs → IsPartitionPoint (λ y. R y x ≡ Less) (λ y. R y x ≡ Greater) xs i)
      → list_any (eq_by_cmp R x) xs ≡ false
  absent xs x i s h = list_any_none (eq_by_cmp R x) xs (λ k d b. at k d b (cases_lt k i))
    where
      found : IsPartitionPoint (λ y. R y x ≡ Less) (λ y. R y x ≡ Greater) xs i
      found = h (searchable_from_sorted o (λ y. y) xs x (sorted xs s))

      at : (k : ℕ) (d : K) → k < length xs → (k < i) ⊎ (i ≤ k) → eq_by_cmp R x (get_or xs k d) ≡ false
      at k d b (inl l) = ap is_eq (o.antisymm x (get_or xs k d) ∙ ap ordering_reverse (found.0 k d (omega arith) l))
      at k d b (inr l) = ap is_eq (o.antisymm x (get_or xs k d) ∙ ap ordering_reverse (found.1 k d l b))

-- ---- an item more

pub each_more : {X : Type 0} (P : X → Type 0) (xs : List X) (x : X) (ys : List X) → ys ≡ xs ++ x ∷ [] → All P xs → P x → All P ys
each_more P xs x ys e a p = subst (All P) (sym e) (All-push P xs x a p)

pub mapped_more : {X Y : Type 0} (f : X → Y) (xs : List X) (x : X) (ys : List X) (made : List Y) (i : ℕ) (y : Y) → ys ≡ xs ++ x ∷ [] → i < length made → y ≡ get_or made i y → f x ≡ y
    → map f xs ≡ take i made → map f ys ≡ take (i + 1) made
mapped_more f xs x ys made i y e l is g h = ap (map f) e ∙ map-append f xs (x ∷ []) ∙ (λ j. h j ++ (g ∙ is) j ∷ []) ∙ sym (take_more made i y l)
