-- How many items of a list pass a test, counted by recursion.
use Rattle.std.proofs.Common.{◌≡◌, ℕ, ◌+◌, ◌<◌, Bool, true, false, cond, List, [], ◌∷◌, ◌++◌, map, filter, count_by, refl, sym, ap, subst, ◌∙◌, arith}
use Rattle.std.specs.List.Sorted.{IsPermutation}
use Rattle.std.specs.Ordering.{eq_by_cmp, is_eq}
use Rattle.std.specs.Cmp.{IsTotalOrder}
use Rattle.std.specs.declared.cmp.Ordering.{Ordering}
use Rattle.std.specs.declared.cmp.Ordering.TheVariants.{Less, Equal, Greater}
use Rattle.std.proofs.lemmas.Cmp.{tied_itself}
use Rattle.std.proofs.lemmas.List.Sorted.{IsPermutation-refl, IsPermutation-sym, IsPermutation-trans, IsPermutation-cons, IsPermutation-middle}
use Rattle.std.proofs.lemmas.Map.Lookups.{CmpEqualImpliesEq}
use Rattle.std.proofs.lemmas.List.Sums.{sum_by-cons}

abbrev pub one_if : Bool → ℕ
one_if b = cond b 1 0

-- how many items pass
abbrev pub count : {X : Type 0} → (X → Bool) → List X → ℕ
count test [] = 0
count test (x ∷ xs) = cond (test x) 1 0 + count test xs

-- it is the count of std
pub count_is : {X : Type 0} (test : X → Bool) (xs : List X) → count_by test xs ≡ count test xs
count_is test [] = refl
count_is test (x ∷ xs) = sum_by-cons (λ y. cond (test y) 1 0) x xs ∙ ap (λ n. cond (test x) 1 0 + n) (count_is test xs)

-- nothing added in front
none_before : (n : ℕ) → n ≡ 0 + n
none_before n = omega arith

-- one number more in front of a sum
one_more : (a m n k : ℕ) → k ≡ m + n → a + k ≡ a + m + n
one_more a m n k e = omega arith

-- of two lists joined
pub count-append : {X : Type 0} (test : X → Bool) (xs ys : List X) → count test (xs ++ ys) ≡ count test xs + count test ys
count-append test [] ys = none_before (count test ys)
count-append test (x ∷ xs) ys = one_more (cond (test x) 1 0) (count test xs) (count test ys) (count test (xs ++ ys)) (count-append test xs ys)

-- of a list of images
pub count-map : {X Y : Type 0} (test : Y → Bool) (f : X → Y) (xs : List X) → count test (map f xs) ≡ count (λ x. test (f x)) xs
count-map test f [] = refl
count-map test f (x ∷ xs) = ap (λ n. cond (test (f x)) 1 0 + n) (count-map test f xs)

-- nothing passes a test that all fail
pub count-none : {X : Type 0} (test : X → Bool) (xs : List X) → ((x : X) → test x ≡ false) → count test xs ≡ 0
count-none test [] fails = refl
count-none test (x ∷ xs) fails = λ i. cond (fails x i) 1 0 + count-none test xs fails i

-- the count of a list with one item more, or without it
front : {X : Type 0} (test : X → Bool) (b : Bool) (x : X) (xs : List X) → count test (cond b (x ∷ xs) xs) ≡ cond b (cond (test x) 1 0 + count test xs) (count test xs)
front test true x xs = refl
front test false x xs = refl

-- a test that changes nothing
nothing : (b : Bool) (n : ℕ) → n ≡ cond b n n
nothing true n = refl
nothing false n = refl

-- one item more: whether it is kept, whether the item counted is, and whether it is that item
kept : (this that same : Bool) (m n : ℕ) → (same ≡ true → that ≡ this) → n ≡ cond that m 0 → cond this (cond same 1 0 + n) n ≡ cond that (cond same 1 0 + m) 0
kept true true same m n alike e = ap (λ k. cond same 1 0 + k) e
kept true false true m n alike e = let clash : false ≡ true = alike refl in cc
kept true false false m n alike e = omega arith
kept false true true m n alike e = let clash : true ≡ false = alike refl in cc
kept false true false m n alike e = omega arith
kept false false same m n alike e = e

-- a filter keeps each copy of an item or none, where the test passes that item alone
pub count-filter : {X : Type 0} (test keeps : X → Bool) (item : X) → ((x : X) → test x ≡ true → item ≡ x) → (xs : List X)
    → count test (filter keeps xs) ≡ cond (keeps item) (count test xs) 0
count-filter test keeps item alone [] = nothing (keeps item) 0
count-filter test keeps item alone (x ∷ xs) = front test (keeps x) x (filter keeps xs)
    ∙ kept (keeps x) (keeps item) (test x) (count test xs) (count test (filter keeps xs)) (λ e. ap keeps (alone x e)) (count-filter test keeps item alone xs)

-- lists in which each item stands equally often have the same items

pub count-middle : {X : Type 0} (p : X → Bool) (us : List X) (x : X) (vs : List X) → count p (us ++ x ∷ vs) ≡ cond (p x) 1 0 + count p (us ++ vs)
count-middle p [] x vs = refl
count-middle p (u ∷ us) x vs =
    let turn : (a b c d : ℕ) → d ≡ b + c → a + d ≡ b + (a + c) = λ a b c d e. omega arith in
    turn (cond (p u) 1 0) (cond (p x) 1 0) (count p (us ++ vs)) (count p (us ++ x ∷ vs)) (count-middle p us x vs)

-- what passes and stands in a list is counted there
pub stands : {X : Type 0} (p : X → Bool) (before : List X) (x : X) (after : List X) → p x ≡ true → 0 < count p (before ++ x ∷ after)
stands p before x after e =
    let some : (n m k : ℕ) → n ≡ 1 → k ≡ n + m → 0 < k = λ n m k e f. omega arith in
    some (cond (p x) 1 0) (count p (before ++ after)) (count p (before ++ x ∷ after)) (ap (λ b. cond b 1 0) e) (count-middle p before x after)

-- q stands somewhere in a list
pub record Split {X : Type 0} (q : X) (xs : List X) : Type 0 where
  pub before : List X
  pub after : List X
  pub is : xs ≡ before ++ q ∷ after

module _ {K : Type 0} {R : K → K → Ordering} (o : IsTotalOrder R) (exact : CmpEqualImpliesEq R) where
  pub split_at : (q : K) (ys : List K) → 0 < count (eq_by_cmp R q) ys → Split q ys
  split_at q [] h = absurd (omega arith)
  split_at q (y ∷ ys) h = at (R q y) refl h (split_at q ys)
    where
      later : Split q ys → Split q (y ∷ ys)
      later s = record { before = y ∷ s.before; after = s.after; is = ap (λ zs. y ∷ zs) s.is }

      at : (r : Ordering) → R q y ≡ r → 0 < cond (is_eq r) 1 0 + count (eq_by_cmp R q) ys → (0 < count (eq_by_cmp R q) ys → Split q ys) → Split q (y ∷ ys)
      at Less e k rest = later (rest (omega arith))
      at Equal e k rest = record { before = []; after = ys; is = ap (λ z. z ∷ ys) (sym (exact q y e)) }
      at Greater e k rest = later (rest (omega arith))

  itself : (x : K) → one_if (eq_by_cmp R x x) ≡ 1
  itself x = ap (λ r. cond (is_eq r) 1 0) (tied_itself o x)

  pub same_counts : (xs ys : List K) → ((q : K) → count (eq_by_cmp R q) xs ≡ count (eq_by_cmp R q) ys) → IsPermutation xs ys
  same_counts [] [] h = IsPermutation-refl []
  same_counts [] (y ∷ ys) h =
      let none : (n m : ℕ) → n ≡ 1 → 0 ≡ n + m → ⊥ = λ n m e f. omega arith in
      absurd (none (cond (eq_by_cmp R y y) 1 0) (count (eq_by_cmp R y) ys) (itself y) (h y))
  same_counts (x ∷ xs) ys h =
      let some : (n m k : ℕ) → n ≡ 1 → n + m ≡ k → 0 < k = λ n m k e f. omega arith in
      let s : Split x ys = split_at x ys (some (cond (eq_by_cmp R x x) 1 0) (count (eq_by_cmp R x) xs) (count (eq_by_cmp R x) ys) (itself x) (h x)) in
      let cancel : (a m n k : ℕ) → a + m ≡ k → k ≡ a + n → m ≡ n = λ a m n k e f. omega arith in
      let rest : IsPermutation xs (s.before ++ s.after) = same_counts xs (s.before ++ s.after)
      (λ q. cancel (cond (eq_by_cmp R q x) 1 0) _ _ (count (eq_by_cmp R q) ys) (h q) (ap (count (eq_by_cmp R q)) s.is ∙ count-middle (eq_by_cmp R q) s.before x s.after)) in
      IsPermutation-trans (x ∷ xs) (x ∷ (s.before ++ s.after)) ys (IsPermutation-cons x xs (s.before ++ s.after) rest)
      (subst (IsPermutation (x ∷ (s.before ++ s.after))) (sym s.is) (IsPermutation-sym _ _ (IsPermutation-middle s.before x s.after)))
