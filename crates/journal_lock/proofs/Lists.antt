-- Lists that are read by a place, old lists and their numbers.
use Rattle.std.proofs.Common.{Option, Some, None, ◌≡◌, ◌≢◌, ◌⊎◌, ℕ, zero, suc, ◌<◌, ◌≤◌, List, [], ◌∷◌, ◌++◌, length, set, true, false, true≢false, eqb, ◌||◌, refl, sym, ap, ◌∙◌, subst, ⊎_elim, inl, inr, arith, append_assoc, ne_eqb}
use Rattle.std.proofs.lemmas.Bool.{cases_Bool}
use Rattle.std.proofs.lemmas.Bool.Decides.{eqb_tells}
use Rattle.std.proofs.lemmas.Map.Steps.{length-le_from_distinct_below}
use Rattle.std.specs.List.{list_any, IsDistinct, AllByRecursion}
use mathlib.Core.Option.{some, some-ne-none, some-injective}
use lib.ListN.{get_elem?}
use Rattle.atomic_table.proofs.Lists.{at_set}
use Rattle.journal_lock.specs.declared.table.OldList.{OldList}
use Rattle.journal_lock.specs.Rule.{NoneOf, HasAll, AllBelow, AllAmong, OldsHaveAll, OldsOf, numbers}

module _ {A : Type 0} where
  -- where a place has a value, it has another once that is set
  pub here_set : (l : List A) (i : ℕ) (a b : A) → get_elem? l i ≡ some a → get_elem? (set l i b) i ≡ some b
  here_set [] i a b e = absurd (some-ne-none a (sym e))
  here_set (x ∷ xs) zero a b e = refl
  here_set (x ∷ xs) (suc i) a b e = here_set xs i a b e

  pub none_past : (l : List A) (i : ℕ) (a : A) → get_elem? l i ≡ some a → i < length l
  none_past [] i a e = absurd (some-ne-none a (sym e))
  none_past (x ∷ xs) zero a e = omega arith
  none_past (x ∷ xs) (suc i) a e = let h = none_past xs i a e in omega arith

  -- what holds of each item, after one is set
  pub each_set : (P : ℕ → A → Type 0) (l : List A) (i : ℕ) (b : A) → ((j : ℕ) (u : A) → j ≢ i → get_elem? l j ≡ some u → P j u) → P i b → (j : ℕ) (u : A) → get_elem? (set l i b) j ≡ some u → P j u
  each_set P l i b others mine j u e =
      ⊎_elim
      (λ (x : (j ≡ i) × (b ≡ u)). subst (λ (y : ℕ × A). P y.0 y.1) (λ k. (sym x.0 k, x.1 k)) mine)
      (λ (x : (j ≢ i) × (get_elem? l j ≡ some u)). others j u x.0 x.1)
      (at_set l i j b u e)

  -- an item of a list with one more
  pub at_more : (l : List A) (b : A) (j : ℕ) (u : A) → get_elem? (l ++ b ∷ []) j ≡ some u → (get_elem? l j ≡ some u) ⊎ ((j ≡ length l) × (b ≡ u))
  at_more [] b zero u e = inr (refl, some-injective b u e)
  at_more [] b (suc j) u e = absurd (some-ne-none u (sym e))
  at_more (x ∷ xs) b zero u e = inl e
  at_more (x ∷ xs) b (suc j) u e = ⊎_elim (λ t. inl t) (λ t. inr (ap suc t.0, t.1)) (at_more xs b j u e)

  pub each_more : (P : ℕ → A → Type 0) (l : List A) (b : A) → ((j : ℕ) (u : A) → get_elem? l j ≡ some u → P j u) → P (length l) b → (j : ℕ) (u : A) → get_elem? (l ++ b ∷ []) j ≡ some u → P j u
  each_more P l b others mine j u e =
      ⊎_elim
      (λ (x : get_elem? l j ≡ some u). others j u x)
      (λ (x : (j ≡ length l) × (b ≡ u)). subst (λ (y : ℕ × A). P y.0 y.1) (λ k. (sym x.0 k, x.1 k)) mine)
      (at_more l b j u e)

all_differ : (k : ℕ) (ks : List ℕ) → list_any (eqb k) ks ≡ false → AllByRecursion (λ y. eqb k y ≡ false) ks
all_differ k [] e = tt
all_differ k (x ∷ xs) e = ⊎_elim
    (λ (t : (eqb k x ≡ true) × (k ≡ x)). absurd (true≢false (sym (ap (λ b. b || list_any (eqb k) xs) t.0) ∙ e)))
    (λ (t : (eqb k x ≡ false) × (k ≢ x)). (t.0, all_differ k xs (sym (ap (λ b. b || list_any (eqb k) xs) t.0) ∙ e)))
    (eqb_tells k x)

-- as many numbers below n as there are, with no two equal, are all of them
pub covers : (ks : List ℕ) (n : ℕ) → IsDistinct eqb ks → ((q : ℕ) → list_any (eqb q) ks ≡ true → q < n) → n ≤ length ks → (k : ℕ) → k < n → list_any (eqb k) ks ≡ true
unfolding IsDistinct
covers ks n apart below many k less = ⊎_elim
    (λ (t : list_any (eqb k) ks ≡ true). t)
    (λ (t : list_any (eqb k) ks ≡ false).
    let few = length-le_from_distinct_below (k ∷ ks) n (all_differ k ks t, apart)
    (λ q e. ⊎_elim
    (λ (s : (eqb q k ≡ true) × (q ≡ k)). subst (λ m. m < n) (sym s.1) less)
    (λ (s : (eqb q k ≡ false) × (q ≢ k)). below q (sym (ap (λ b. b || list_any (eqb q) ks) s.0) ∙ e))
    (eqb_tells q k)) in
    absurd (omega arith))
    (cases_Bool (list_any (eqb k) ks))

module _ {E : Type 0} where
  pub numbers_length : (olds : List (OldList E)) → length (numbers olds) ≡ length olds
  numbers_length [] = refl
  numbers_length (o ∷ os) = ap suc (numbers_length os)

  -- a number among those of the old lists is of their seat
  pub among_who : (seat_with : ℕ → ℕ) (made id : ℕ) (olds : List (OldList E)) → OldsOf seat_with made id olds → (k : ℕ) → list_any (eqb k) (numbers olds) ≡ true → (seat_with k ≡ id) × (k < made)
  among_who seat_with made id [] of k e = absurd (true≢false (sym e))
  among_who seat_with made id (o ∷ os) of k e = ⊎_elim
      (λ (t : (eqb k o.number ≡ true) × (k ≡ o.number)). (ap seat_with t.1 ∙ of.0.0, subst (λ m. m < made) (sym t.1) of.0.1))
      (λ (t : (eqb k o.number ≡ false) × (k ≢ o.number)). among_who seat_with made id os of.1 k (sym (ap (λ b. b || list_any (eqb k) (numbers os)) t.0) ∙ e))
      (eqb_tells k o.number)

  -- a number of another seat is not among those of the old lists
  pub all_apart : (seat_with : ℕ → ℕ) (made id : ℕ) (olds : List (OldList E)) (k : ℕ) → OldsOf seat_with made id olds → seat_with k ≢ id → AllByRecursion (λ y. eqb k y ≡ false) (numbers olds)
  all_apart seat_with made id [] k of ne = tt
  all_apart seat_with made id (o ∷ os) k of ne = (ne_eqb k o.number (λ same. ne (ap seat_with same ∙ of.0.0)), all_apart seat_with made id os k of.1 ne)

  -- the old lists of a seat, where the seats of other numbers change
  pub olds_moved : (seat_with seat_with' : ℕ → ℕ) (made made' id : ℕ) (olds : List (OldList E)) → made ≤ made' → ((k : ℕ) → k < made → seat_with k ≡ id → seat_with' k ≡ id) → OldsOf seat_with made id olds → OldsOf seat_with' made' id olds
  olds_moved seat_with seat_with' made made' id [] le same of = tt
  olds_moved seat_with seat_with' made made' id (o ∷ os) le same of = let b = of.0.1 in ((same o.number of.0.1 of.0.0, omega arith), olds_moved seat_with seat_with' made made' id os le same of.1)

  module _ (number : E → ℕ) where
    pub none_more : (k : ℕ) (more : List E) (e : E) → NoneOf number k more → number e ≢ k → NoneOf number k (more ++ e ∷ [])
    none_more k [] e n ne = (ne, tt)
    none_more k (x ∷ xs) e n ne = (n.0, none_more k xs e n.1 ne)

    pub below_more : (n : ℕ) (log : List E) (e : E) → AllBelow number n log → number e < n → AllBelow number n (log ++ e ∷ [])
    below_more n [] e h l = (l, tt)
    below_more n (x ∷ xs) e h l = (h.0, below_more n xs e h.1 l)

    pub below_up : (n m : ℕ) (log : List E) → n ≤ m → AllBelow number n log → AllBelow number m log
    below_up n m [] le h = tt
    below_up n m (x ∷ xs) le h = let b = h.0 in (omega arith, below_up n m xs le h.1)

    pub below_none : (n : ℕ) (log : List E) → AllBelow number n log → NoneOf number n log
    below_none n [] h = tt
    below_none n (x ∷ xs) h = let b = h.0 in ((λ same. absurd (omega arith)), below_none n xs h.1)

    pub all_among : (n : ℕ) (ks : List ℕ) (log : List E) → AllBelow number n log → ((k : ℕ) → k < n → list_any (eqb k) ks ≡ true) → AllAmong number ks log
    all_among n ks [] h c = tt
    all_among n ks (x ∷ xs) h c = (c (number x) h.0, all_among n ks xs h.1 c)

    -- a seat that has all entries with its number still has them when one with another is added
    pub has_more : (k : ℕ) (seen log : List E) (e : E) → HasAll number k seen log → number e ≢ k → HasAll number k seen (log ++ e ∷ [])
    has_more k seen log e h ne = (h.0 ++ e ∷ [], ap (λ l. l ++ e ∷ []) h.1 ∙ append_assoc seen h.0 (e ∷ []), none_more k h.0 e h.2 ne)

    pub olds_more : (seat_with : ℕ → ℕ) (made id k : ℕ) (olds : List (OldList E)) (log : List E) (e : E) → number e ≡ k → seat_with k ≢ id → OldsOf seat_with made id olds → OldsHaveAll number olds log → OldsHaveAll number olds (log ++ e ∷ [])
    olds_more seat_with made id k [] log e is apart of h = tt
    olds_more seat_with made id k (o ∷ os) log e is apart of h =
        (has_more o.number o.seen log e h.0 (λ same. apart (ap seat_with (sym is ∙ same) ∙ of.0.0)), olds_more seat_with made id k os log e is apart of.1 h.1)

    -- an old list of a number among theirs, which has all entries with it in two lists
    pub both_have : (k : ℕ) (olds : List (OldList E)) (long short : List E) → list_any (eqb k) (numbers olds) ≡ true → OldsHaveAll number olds long → OldsHaveAll number olds short
        → (seen : List E) × HasAll number k seen long × HasAll number k seen short
    both_have k [] long short e l s = absurd (true≢false (sym e))
    both_have k (o ∷ os) long short e l s = ⊎_elim
        (λ (t : (eqb k o.number ≡ true) × (k ≡ o.number)). (o.seen, subst (λ n. HasAll number n o.seen long) (sym t.1) l.0, subst (λ n. HasAll number n o.seen short) (sym t.1) s.0))
        (λ (t : (eqb k o.number ≡ false) × (k ≢ o.number)). both_have k os long short (sym (ap (λ b. b || list_any (eqb k) (numbers os)) t.0) ∙ e) l.1 s.1)
        (eqb_tells k o.number)

    pub below_at : (n : ℕ) (xs : List E) (e : E) (es : List E) → AllBelow number n (xs ++ e ∷ es) → number e < n
    below_at n [] e es h = h.0
    below_at n (x ∷ xs) e es h = below_at n xs e es h.1

    pub none_at : (k : ℕ) (xs : List E) (e : E) (es : List E) → NoneOf number k (xs ++ e ∷ es) → number e ≢ k
    none_at k [] e es h = h.0
    none_at k (x ∷ xs) e es h = none_at k xs e es h.1

pub some_same : {A : Type 0} (x y : A) → Some x ≡ Some y → x ≡ y
some_same {A} x y e = ap from_some e
  where
    from_some : Option A → A
    from_some None = x
    from_some (Some z) = z
