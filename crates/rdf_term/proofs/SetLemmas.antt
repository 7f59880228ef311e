-- A strictly ascending list is known by its elements, and `sorted_set` makes the one with given elements.
use Rattle.std.specs.Prelude.{Contains}
use Rattle.std.proofs.Common.{◌≡◌, ◌↔◌, Bool, true, false, ◌||◌, cond, List, [], ◌∷◌, ◌++◌, fold, refl, sym, ap, subst, ◌∙◌}
use Rattle.std.specs.List.{list_any, AllByRecursion, dedup, dedup_from}
use Rattle.std.specs.List.Sorted.{IsStrictlySortedBy, IsSorted, IsPermutation}
use Rattle.std.specs.Ordering.{eq_by_cmp, is_eq, match_ordering, ordering_reverse}
use Rattle.std.specs.Cmp.{IsTotalOrder}
use Rattle.std.specs.BTreeSet.{insert_key}
use Rattle.std.specs.declared.cmp.Ordering.{Ordering}
use Rattle.std.specs.declared.cmp.Ordering.TheVariants.{Less, Equal, Greater}
use Rattle.std.proofs.lemmas.Cmp.{tied_itself, alike_right, eq_by_cmp_equiv}
use Rattle.std.proofs.lemmas.Map.Views.{Contains-from_any, list_any-from_Contains}
use Rattle.std.proofs.lemmas.List.Kept.{IsStrictlySortedBy-dedup}
use Rattle.std.proofs.lemmas.List.Sorted.{list_any-IsPermutation}
use Rattle.std.proofs.lemmas.List.Folds.{list_any-append}
use Rattle.std.proofs.lemmas.Map.Lookups.{CmpEqualImpliesEq}
use Rattle.rdf_term.specs.Sets.{sorted_set}
use Rattle.rdf_term.proofs.Same.{same_by_cmp}

-- q is an element
abbrev pub has : {K : Type 0} → (K → K → Ordering) → List K → K → Bool
has R xs q = list_any (eq_by_cmp R q) xs

pub by_order : {P : Type 0} (k : Ordering) → (k ≡ Less → P) → (k ≡ Equal → P) → (k ≡ Greater → P) → P
by_order Less a b c = a refl
by_order Equal a b c = b refl
by_order Greater a b c = c refl

or_same : (a b : Bool) → (a || b) ≡ (a || (a || b))
or_same true b = refl
or_same false b = refl

or_swap : (a b c : Bool) → (a || (b || c)) ≡ (b || (a || c))
or_swap true true c = refl
or_swap true false c = refl
or_swap false true c = refl
or_swap false false c = refl

or_assoc : (a b c : Bool) → ((a || b) || c) ≡ (a || (b || c))
or_assoc true b c = refl
or_assoc false b c = refl

or_false : (a : Bool) → (a || false) ≡ a
or_false true = refl
or_false false = refl

or_true : (a : Bool) → (a || true) ≡ true
or_true true = refl
or_true false = refl

module _ {K : Type 0} {R : K → K → Ordering} (o : IsTotalOrder R) (exact : CmpEqualImpliesEq R) where
  above_tied : (x y : K) → R x y ≡ Greater → R y x ≡ Less
  above_tied x y e = o.antisymm y x ∙ ap ordering_reverse e

  none_below : (x : K) (ys : List K) → AllByRecursion (λ y. R x y ≡ Less) ys → has R ys x ≡ false
  none_below x [] a = refl
  none_below x (y ∷ ys) a = λ i. is_eq (a.0 i) || none_below x ys a.1 i

  below_all : (x y : K) (zs : List K) → R x y ≡ Less → AllByRecursion (λ z. R y z ≡ Less) zs → AllByRecursion (λ z. R x z ≡ Less) zs
  below_all x y [] e a = tt
  below_all x y (z ∷ zs) e a = (o.trans x y z e a.0, below_all x y zs e a.1)

  has_itself : (x : K) (xs : List K) → has R (x ∷ xs) x ≡ true
  has_itself x xs = λ i. is_eq (tied_itself o x i) || has R xs x

  not_first : (b c d : Bool) → b ≡ false → (b || c) ≡ (b || d) → c ≡ d
  not_first true c d e h = cc
  not_first false c d e h = h

  -- what is left once the common first element is gone
  same_rest : (x q : K) (xs ys : List K) → AllByRecursion (λ y. R x y ≡ Less) xs → AllByRecursion (λ y. R x y ≡ Less) ys
      → has R (x ∷ xs) q ≡ has R (x ∷ ys) q → has R xs q ≡ has R ys q
  same_rest x q xs ys a b e = by_order (R q x)
      (λ l. not_first (is_eq (R q x)) (has R xs q) (has R ys q) (ap is_eq l) e)
      (λ l. let same : q ≡ x = exact q x l in
      ap (has R xs) same ∙ none_below x xs a ∙ sym (ap (has R ys) same ∙ none_below x ys b))
      (λ l. not_first (is_eq (R q x)) (has R xs q) (has R ys q) (ap is_eq l) e)

  -- two strictly ascending lists with the same elements are equal
  pub same_set : (xs ys : List K) → IsStrictlySortedBy R xs → IsStrictlySortedBy R ys → ((q : K) → has R xs q ≡ has R ys q) → xs ≡ ys
  unfolding IsStrictlySortedBy
  same_set [] [] s t h = refl
  same_set [] (y ∷ ys) s t h = let e : false ≡ true = h y ∙ has_itself y ys in cc
  same_set (x ∷ xs) [] s t h = let e : true ≡ false = sym (has_itself x xs) ∙ h x in cc
  same_set (x ∷ xs) (y ∷ ys) s t h = by_order (R x y)
      (λ l. let e : true ≡ false = sym (has_itself x xs) ∙ h x ∙ none_below x (y ∷ ys) (l, below_all x y ys l t.0) in cc)
      (λ l. let first : x ≡ y = exact x y l in
      let t' : IsStrictlySortedBy R (x ∷ ys) = subst (λ z. IsStrictlySortedBy R (z ∷ ys)) (sym first) t in
      let h' : (q : K) → has R (x ∷ xs) q ≡ has R (x ∷ ys) q = λ q. h q ∙ ap (λ z. has R (z ∷ ys) q) (sym first) in
      (λ i. first i ∷ same_set xs ys s.1 t'.1 (λ q. same_rest x q xs ys s.0 t'.0 (h' q)) i))
      (λ l. let m : R y x ≡ Less = above_tied x y l in
      let e : true ≡ false = sym (has_itself y ys) ∙ sym (h y) ∙ none_below y (x ∷ xs) (m, below_all y x xs m s.0) in cc)

  -- an insertion adds its element
  has-insert_key : (xs : List K) (k q : K) → has R (insert_key R xs k) q ≡ (is_eq (R q k) || has R xs q)
  has-insert_key [] k q = refl
  has-insert_key (x ∷ xs) k q = at (has-insert_key xs k q) (R k x) refl
    where
      at : has R (insert_key R xs k) q ≡ (is_eq (R q k) || has R xs q) → (r : Ordering) → R k x ≡ r
          → has R (match_ordering r (k ∷ x ∷ xs) (x ∷ xs) (x ∷ insert_key R xs k)) q ≡ (is_eq (R q k) || has R (x ∷ xs) q)
      at rest Less e = refl
      at rest Equal e = or_same (is_eq (R q x)) (has R xs q) ∙ ap (λ r. is_eq r || has R (x ∷ xs) q) (sym (alike_right o k x q e))
      at rest Greater e = ap (λ b. is_eq (R q x) || b) rest ∙ or_swap (is_eq (R q x)) (is_eq (R q k)) (has R xs q)

  all-insert_key : (P : K → Type 0) (xs : List K) (k : K) → AllByRecursion P xs → P k → AllByRecursion P (insert_key R xs k)
  all-insert_key P [] k a p = (p, tt)
  all-insert_key P (x ∷ xs) k a p = at (all-insert_key P xs k a.1 p) (R k x)
    where
      at : AllByRecursion P (insert_key R xs k) → (r : Ordering) → AllByRecursion P (match_ordering r (k ∷ x ∷ xs) (x ∷ xs) (x ∷ insert_key R xs k))
      at rest Less = (p, a)
      at rest Equal = a
      at rest Greater = (a.0, rest)

  sorted-insert_key : (xs : List K) (k : K) → IsStrictlySortedBy R xs → IsStrictlySortedBy R (insert_key R xs k)
  unfolding IsStrictlySortedBy
  sorted-insert_key [] k s = (tt, tt)
  sorted-insert_key (x ∷ xs) k s = at (sorted-insert_key xs k s.1) (R k x) refl
    where
      at : IsStrictlySortedBy R (insert_key R xs k) → (r : Ordering) → R k x ≡ r → IsStrictlySortedBy R (match_ordering r (k ∷ x ∷ xs) (x ∷ xs) (x ∷ insert_key R xs k))
      at rest Less e = ((e, below_all k x xs e s.0), s)
      at rest Equal e = s
      at rest Greater e = (all-insert_key (λ y. R x y ≡ Less) xs k s.0 (above_tied k x e), rest)

  sorted_from : (acc xs : List K) → IsStrictlySortedBy R acc → IsStrictlySortedBy R (fold (λ s x. insert_key R s x) acc xs)
  sorted_from acc [] s = s
  sorted_from acc (x ∷ xs) s = sorted_from (insert_key R acc x) xs (sorted-insert_key acc x s)

  has_from : (acc xs : List K) (q : K) → has R (fold (λ s x. insert_key R s x) acc xs) q ≡ (has R xs q || has R acc q)
  has_from acc [] q = refl
  has_from acc (x ∷ xs) q =
      has_from (insert_key R acc x) xs q ∙ ap (λ b. has R xs q || b) (has-insert_key acc x q)
      ∙ or_swap (has R xs q) (is_eq (R q x)) (has R acc q) ∙ sym (or_assoc (is_eq (R q x)) (has R xs q) (has R acc q))

  -- a set is strictly ascending, and has the elements that it is made of
  pub sorted_set-sorted : (xs : List K) → IsStrictlySortedBy R (sorted_set R xs)
  unfolding IsStrictlySortedBy
  sorted_set-sorted xs = sorted_from [] xs tt

  pub has-sorted_set : (xs : List K) (q : K) → has R (sorted_set R xs) q ≡ has R xs q
  has-sorted_set xs q = has_from [] xs q ∙ or_false (has R xs q)

  -- a strictly ascending list is the set of any list with its elements
  pub sorted_set-is : (ys xs : List K) → IsStrictlySortedBy R ys → ((q : K) → has R ys q ≡ has R xs q) → ys ≡ sorted_set R xs
  sorted_set-is ys xs s h = same_set ys (sorted_set R xs) s (sorted_set-sorted xs) (λ q. h q ∙ sym (has-sorted_set xs q))

  pub sorted_set-same : (xs ys : List K) → ((q : K) → has R xs q ≡ has R ys q) → sorted_set R xs ≡ sorted_set R ys
  sorted_set-same xs ys h = sorted_set-is (sorted_set R xs) ys (sorted_set-sorted xs) (λ q. has-sorted_set xs q ∙ h q)

  -- a set may be made in two steps
  pub sorted_set-append : (xs ys : List K) → sorted_set R (sorted_set R xs ++ ys) ≡ sorted_set R (xs ++ ys)
  sorted_set-append xs ys = sorted_set-same _ _ (λ q. list_any-append (eq_by_cmp R q) (sorted_set R xs) ys
      ∙ ap (λ b. b || has R ys q) (has-sorted_set xs q) ∙ sym (list_any-append (eq_by_cmp R q) xs ys))

  has-dedup_from : (k : K) (xs : List K) (q : K) → has R (dedup_from (eq_by_cmp R) k xs) q ≡ has R (k ∷ xs) q
  has-dedup_from k [] q = refl
  has-dedup_from k (x ∷ xs) q = at (has-dedup_from x xs q) (has-dedup_from k xs q) (R x k) refl
    where
      at : has R (dedup_from (eq_by_cmp R) x xs) q ≡ has R (x ∷ xs) q → has R (dedup_from (eq_by_cmp R) k xs) q ≡ has R (k ∷ xs) q → (r : Ordering) → R x k ≡ r → has R (cond (is_eq r) (dedup_from (eq_by_cmp R) k xs) (k ∷ dedup_from (eq_by_cmp R) x xs)) q ≡ has R (k ∷ x ∷ xs) q
      at other same Less e = ap (λ b. is_eq (R q k) || b) other
      at other same Equal e = same ∙ or_same (is_eq (R q k)) (has R xs q)
          ∙ ap (λ r. is_eq (R q k) || (is_eq r || has R xs q)) (sym (alike_right o x k q e))
      at other same Greater e = ap (λ b. is_eq (R q k) || b) other

  has-dedup : (xs : List K) (q : K) → has R (dedup (eq_by_cmp R) xs) q ≡ has R xs q
  has-dedup [] q = refl
  has-dedup (x ∷ xs) q = has-dedup_from x xs q

  -- a list that was sorted and then rid of repeats is the set of its elements
  pub sorted_set-dedup : (xs ys : List K) → IsPermutation xs ys → IsSorted R ys → dedup (eq_by_cmp R) ys ≡ sorted_set R xs
  sorted_set-dedup xs ys p s = sorted_set-is (dedup (eq_by_cmp R) ys) xs (IsStrictlySortedBy-dedup o (λ x y. refl) ys s)
      (λ q. has-dedup ys q ∙ sym (list_any-IsPermutation (eq_by_cmp R q) xs ys p))

  same : (x y : K) → eq_by_cmp R x y ≡ true → x ≡ y
  same x y = (same_by_cmp o exact x y (eq_by_cmp R x y) refl).0

  -- a set has the elements that it is made of
  pub Contains-sorted_set : (xs : List K) (q : K) → Contains (sorted_set R xs) q ↔ Contains xs q
  Contains-sorted_set xs q = (
    λ h. Contains-from_any same q xs (sym (has-sorted_set xs q) ∙ list_any-from_Contains (eq_by_cmp_equiv o) q (sorted_set R xs) h),
    λ h. Contains-from_any same q (sorted_set R xs) (has-sorted_set xs q ∙ list_any-from_Contains (eq_by_cmp_equiv o) q xs h),
  )
