-- Codes in an order, and the part of a run that can lie within bounds.
use Rattle.std.proofs.Common.{◌≡◌, ℕ, suc, ◌+◌, ◌<◌, ◌≤◌, Bool, true, false, ◌||◌, ◌&&◌, cond, leb, List, [], ◌∷◌, ◌++◌, length, get_or, map, take, drop, length-drop, refl, sym, ap, subst, ◌∙◌, ◌⊎◌, inl, inr, arith}
use Rattle.std.specs.List.{list_any, count_by, filter, All, slice_range}
use Rattle.std.specs.List.Sorted.{IsSorted, IsStrictlySortedBy, IsPartitionedBy, IsPermutation}
use Rattle.std.specs.Ordering.{is_lt, is_le, ordering_reverse, ordering_then, nat_cmp}
use Rattle.std.specs.declared.cmp.Ordering.{Ordering}
use Rattle.std.specs.declared.cmp.Ordering.TheVariants.{Less, Equal, Greater}
use Rattle.std.proofs.lemmas.Bool.{cases_order, and_parts, leb-true}
use Rattle.std.proofs.lemmas.List.{take-append-drop, get_or-take, get_or-drop, length-take-le, length-map}
use Rattle.std.proofs.lemmas.List.Elements.{filter-append, All-map}
use Rattle.std.proofs.lemmas.List.Folds.{drop_split}
use Rattle.std.proofs.lemmas.List.Sums.{length-filter}
use Rattle.std.proofs.lemmas.List.Sorted.{sum_by-IsPermutation, ranks_by, sorted_far, All-permutation}
use Rattle.quad_index.specs.declared.letter.Letter.{Letter}
use Rattle.quad_index.specs.declared.letter.Letter.TheVariants.{S, P, O, C}
use Rattle.quad_index.specs.declared.code.Code.{Code}
use Rattle.quad_index.specs.Letters.{same_letter, IsArrangement}
use Rattle.quad_index.specs.Codes.{code_cmp, code_total, part, arrange, arrange_back, number_of, is_between, is_within, HasSame, HasSameWithin, IsFromTo, IsRun}
use Rattle.quad_index.proofs.CodeLemmas.{code_exact, cmp_below, cmp_same}
use Rattle.quad_index.proofs.LetterLemmas.{four_is}
use Rattle.quad_index.proofs.ListLemmas.{sorted}

-- ---- an order, and back

same_is : (l m : Letter) → same_letter l m ≡ true → m ≡ l
same_is S S e = refl
same_is P P e = refl
same_is O O e = refl
same_is C C e = refl
same_is S P e = cc
same_is S O e = cc
same_is S C e = cc
same_is P S e = cc
same_is P O e = cc
same_is P C e = cc
same_is O S e = cc
same_is O P e = cc
same_is O C e = cc
same_is C S e = cc
same_is C P e = cc
same_is C O e = cc

picked : (k : Code) (l w x y z : Letter) → (same_letter l w || (same_letter l x || (same_letter l y || (same_letter l z || false)))) ≡ true
    → cond (same_letter l w) (part k w) (cond (same_letter l x) (part k x) (cond (same_letter l y) (part k y) (part k z))) ≡ part k l
picked k l w x y z h = at (same_letter l w) refl (same_letter l x) refl (same_letter l y) refl (same_letter l z) refl h
  where
    at : (a : Bool) → same_letter l w ≡ a → (b : Bool) → same_letter l x ≡ b → (c : Bool) → same_letter l y ≡ c → (d : Bool) → same_letter l z ≡ d → (a || (b || (c || (d || false)))) ≡ true
        → cond a (part k w) (cond b (part k x) (cond c (part k y) (part k z))) ≡ part k l
    at true e b f c g d i h = ap (part k) (same_is l w e)
    at false e true f c g d i h = ap (part k) (same_is l x f)
    at false e false f true g d i h = ap (part k) (same_is l y g)
    at false e false f false g true i h = ap (part k) (same_is l z i)
    at false e false f false g false i h = cc

number_is : (order : List Letter) → IsArrangement order → (k : Code) (l : Letter) → number_of order (arrange order k) l ≡ part k l
number_is order a k l = picked k l _ _ _ _ (subst (λ (ls : List Letter). list_any (same_letter l) ls ≡ true) (four_is order S a.four) (a.each l))

pub there_and_back : (order : List Letter) → IsArrangement order → (k : Code) → arrange_back order (arrange order k) ≡ k
there_and_back order a k = λ i. record { first = number_is order a k S i; second = number_is order a k P i; third = number_is order a k O i; fourth = number_is order a k C i }

-- ---- what lies within bounds lies between them in any order

le_cmp : (i j : ℕ) → i ≤ j → is_le (nat_cmp i j) ≡ true
le_cmp i j l = at (cases_order i j)
  where
    at : (i ≡ j) ⊎ ((i < j) ⊎ (j < i)) → is_le (nat_cmp i j) ≡ true
    at (inl e) = ap is_le (cmp_same i j e)
    at (inr (inl b)) = ap is_le (cmp_below i j b)
    at (inr (inr b)) = absurd (omega arith)

then_le : (a b : Ordering) → is_le a ≡ true → is_le b ≡ true → is_le (ordering_then a b) ≡ true
then_le Less b e f = refl
then_le Equal b e f = f
then_le Greater b e f = cc

all_le : (x y : Code) → x.first ≤ y.first → x.second ≤ y.second → x.third ≤ y.third → x.fourth ≤ y.fourth → is_le (code_cmp x y) ≡ true
all_le x y a b c d = then_le _ _ (le_cmp x.first y.first a) (then_le _ _ (le_cmp x.second y.second b) (then_le _ _ (le_cmp x.third y.third c) (le_cmp x.fourth y.fourth d)))

between_parts : (l h n : ℕ) → is_between l h n ≡ true → (l ≤ n) × (n ≤ h)
between_parts l h n e = let p = and_parts (leb l n) (leb n h) e in (leb-true l n p.0, leb-true n h p.1)

four_parts : (a b c d : Bool) → (a && b && c && d) ≡ true → (a ≡ true) × (b ≡ true) × (c ≡ true) × (d ≡ true)
four_parts true true true true e = (refl, refl, refl, refl)
four_parts true true true false e = cc
four_parts true true false d e = cc
four_parts true false c d e = cc
four_parts false b c d e = cc

within_parts : (low high k : Code) → is_within low high k ≡ true → (is_between low.first high.first k.first ≡ true) × (is_between low.second high.second k.second ≡ true)
    × (is_between low.third high.third k.third ≡ true) × (is_between low.fourth high.fourth k.fourth ≡ true)
within_parts low high k e = four_parts (is_between low.first high.first k.first) (is_between low.second high.second k.second)
    (is_between low.third high.third k.third) (is_between low.fourth high.fourth k.fourth) e

part_within : (low high k : Code) (l : Letter) → is_within low high k ≡ true → (part low l ≤ part k l) × (part k l ≤ part high l)
part_within low high k S e = between_parts low.first high.first k.first (within_parts low high k e).0
part_within low high k P e = between_parts low.second high.second k.second (within_parts low high k e).1
part_within low high k O e = between_parts low.third high.third k.third (within_parts low high k e).2
part_within low high k C e = between_parts low.fourth high.fourth k.fourth (within_parts low high k e).3

low_le : (order : List Letter) (low high k : Code) → is_within low high k ≡ true → is_le (code_cmp (arrange order low) (arrange order k)) ≡ true
low_le order low high k e = all_le (arrange order low) (arrange order k) (part_within low high k (get_or order 0 S) e).0 (part_within low high k (get_or order 1 S) e).0 (part_within low high k (get_or order 2 S) e).0 (part_within low high k (get_or order 3 S) e).0

le_high : (order : List Letter) (low high k : Code) → is_within low high k ≡ true → is_le (code_cmp (arrange order k) (arrange order high)) ≡ true
le_high order low high k e = all_le (arrange order k) (arrange order high) (part_within low high k (get_or order 0 S) e).1 (part_within low high k (get_or order 1 S) e).1 (part_within low high k (get_or order 2 S) e).1 (part_within low high k (get_or order 3 S) e).1

not_lt : (a b : Ordering) → a ≡ ordering_reverse b → is_le b ≡ true → is_lt a ≡ true → ⊥
not_lt a Less e f g = let k : false ≡ true = sym (ap is_lt e) ∙ g in cc
not_lt a Equal e f g = let k : false ≡ true = sym (ap is_lt e) ∙ g in cc
not_lt a Greater e f g = cc

refuted : (b : Bool) → (b ≡ true → ⊥) → b ≡ false
refuted true h = absurd (h refl)
refuted false h = refl

both : (b : Bool) → b ≡ true → b ≡ false → ⊥
both true e f = cc
both false e f = cc

-- ---- the part of a run

filter_none : {X : Type 0} (p : X → Bool) (xs : List X) → ((k : ℕ) (d : X) → k < length xs → p (get_or xs k d) ≡ false) → filter p xs ≡ []
filter_none p [] h = refl
filter_none p (x ∷ xs) h = (λ i. cond (h 0 x (omega arith) i) (x ∷ filter p xs) (filter p xs)) ∙ filter_none p xs (λ k d l. h (suc k) d (omega arith))

pub middle : {X : Type 0} (p : X → Bool) (xs : List X) (start end : ℕ) → start ≤ end → end ≤ length xs
    → ((k : ℕ) (d : X) → k < start → p (get_or xs k d) ≡ false) → ((k : ℕ) (d : X) → end ≤ k → k < length xs → p (get_or xs k d) ≡ false)
    → filter p (slice_range xs start end) ≡ filter p xs
middle p xs start end l m before after =
    let cut : take start xs ++ (slice_range xs start end ++ drop end xs) ≡ xs = ap (λ ys. take start xs ++ ys) (sym (drop_split xs start end l)) ∙ take-append-drop start xs in
    let front : filter p (take start xs) ≡ [] = filter_none p (take start xs) (λ k d b. let small : k < start = omega (arith, length-take-le start xs (omega arith)) in
    ap p (get_or-take start xs k d small) ∙ before k d small) in
    let back : filter p (drop end xs) ≡ [] = filter_none p (drop end xs) (λ k d b. ap p (get_or-drop end xs k d) ∙ after (end + k) d (omega arith) (inside k b)) in
    sym (ap (filter p) (sym cut) ∙ filter-append p (take start xs) (slice_range xs start end ++ drop end xs)
    ∙ ap (λ ys. ys ++ filter p (slice_range xs start end ++ drop end xs)) front
    ∙ filter-append p (slice_range xs start end) (drop end xs) ∙ ap (λ ys. filter p (slice_range xs start end) ++ ys) back ∙ empty_end (filter p (slice_range xs start end)))
  where
    inside : (k : ℕ) → k < length (drop end xs) → end + k < length xs
    inside k b = omega (arith, length-drop end xs)

    empty_end : {X : Type 0} (ys : List X) → ys ++ [] ≡ ys
    empty_end [] = refl
    empty_end (y ∷ ys) = ap (λ zs. y ∷ zs) (empty_end ys)

pub filter-map : {X Y : Type 0} (p : Y → Bool) (f : X → Y) (xs : List X) → filter p (map f xs) ≡ map f (filter (λ x. p (f x)) xs)
filter-map p f [] = refl
filter-map p f (x ∷ xs) = at (p (f x)) (filter-map p f xs)
  where
    at : (b : Bool) → filter p (map f xs) ≡ map f (filter (λ x. p (f x)) xs) → cond b (f x ∷ filter p (map f xs)) (filter p (map f xs)) ≡ map f (cond b (x ∷ filter (λ x. p (f x)) xs) (filter (λ x. p (f x)) xs))
    at true e = ap (λ ys. f x ∷ ys) e
    at false e = e

-- ---- searches by halves

below_down : (x y b : Code) → is_lt (code_cmp y x) ≡ false → is_lt (code_cmp y b) ≡ true → is_lt (code_cmp x b) ≡ true
below_down x y b h g = at (code_cmp y x) refl h
  where
    less : (r : Ordering) → is_lt r ≡ true → r ≡ Less
    less Less e = refl
    less Equal e = cc
    less Greater e = cc

    at : (r : Ordering) → code_cmp y x ≡ r → is_lt r ≡ false → is_lt (code_cmp x b) ≡ true
    at Less e f = cc
    at Equal e f = ap is_lt (sym (code_total.congr y x b e)) ∙ g
    at Greater e f = ap is_lt (code_total.trans x y b (code_total.antisymm x y ∙ ap ordering_reverse e) (less _ g))

upto_down : (x y b : Code) → is_lt (code_cmp y x) ≡ false → is_le (code_cmp y b) ≡ true → is_le (code_cmp x b) ≡ true
upto_down x y b h g = at (code_cmp y x) refl h (code_cmp y b) refl g
  where
    at : (r : Ordering) → code_cmp y x ≡ r → is_lt r ≡ false → (q : Ordering) → code_cmp y b ≡ q → is_le q ≡ true → is_le (code_cmp x b) ≡ true
    at Less e f q i j = cc
    at Equal e f q i j = ap is_le (sym (code_total.congr y x b e)) ∙ g
    at Greater e f Less i j = ap is_le (code_total.trans x y b (code_total.antisymm x y ∙ ap ordering_reverse e) i)
    at Greater e f Equal i j = ap is_le (ap (code_cmp x) (sym (code_exact y b i)) ∙ code_total.antisymm x y ∙ ap ordering_reverse e)
    at Greater e f Greater i j = cc

pub lower_parts : (keys : List Code) (b : Code) → IsSorted code_cmp keys → IsPartitionedBy (λ k. is_lt (code_cmp k b)) keys
lower_parts keys b s = λ i j d l m h. below_down (get_or keys i d) (get_or keys j d) b (sorted_far (λ x y. is_lt (code_cmp x y)) (ranks_by code_total (λ k. k)) keys s i j d l m) h

pub upper_parts : (keys : List Code) (b : Code) → IsSorted code_cmp keys → IsPartitionedBy (λ k. is_le (code_cmp k b)) keys
upper_parts keys b s = λ i j d l m h. upto_down (get_or keys i d) (get_or keys j d) b (sorted_far (λ x y. is_lt (code_cmp x y)) (ranks_by code_total (λ k. k)) keys s i j d l m) h

-- ---- the codes of a run

pub count-map : {X Y : Type 0} (p : Y → Bool) (f : X → Y) (xs : List X) → count_by p (map f xs) ≡ count_by (λ x. p (f x)) xs
count-map p f xs = sym (length-filter p (map f xs)) ∙ ap length (filter-map p f xs) ∙ length-map (filter (λ x. p (f x)) xs) f ∙ length-filter (λ x. p (f x)) xs

pub run_codes : (order : List Letter) (codes keys : List Code) → IsArrangement order → IsPermutation (map (arrange order) codes) keys → HasSame codes (map (arrange_back order) keys)
run_codes order codes keys a p = record {
  counts = λ test.
      ap (λ (f : Code → Bool). count_by f codes) (λ i k. test (sym (there_and_back order a k) i))
      ∙ sym (count-map (λ k. test (arrange_back order k)) (arrange order) codes)
      ∙ sym (sum_by-IsPermutation (λ k. cond (test (arrange_back order k)) 1 0) (map (arrange order) codes) keys p)
      ∙ sym (count-map test (arrange_back order) keys);
}

pub run_keys : (order : List Letter) (codes keys : List Code) → IsArrangement order → IsPermutation (map (arrange order) codes) keys → All (λ key. arrange order (arrange_back order key) ≡ key) keys
run_keys order codes keys a p = All-permutation (λ (key : Code). arrange order (arrange_back order key) ≡ key) (map (arrange order) codes) keys p
    (All-map (λ (key : Code). arrange order (arrange_back order key) ≡ key) (arrange order) codes (λ k d l. ap (arrange order) (there_and_back order a (get_or codes k d))))

pub empty_run : (order : List Letter) → IsRun order []
empty_run order = record { sorted = λ k d l h. absurd (omega arith); arranged = λ k d l. absurd (omega arith) }

-- codes that ascend are keys of the order of quads themselves
abbrev spoc : List Letter
spoc = S ∷ P ∷ O ∷ C ∷ []

pub spoc_run : (order : List Letter) (codes : List Code) → order ≡ spoc → IsStrictlySortedBy code_cmp codes → IsRun order codes
spoc_run order codes e s = subst (λ o. IsRun o codes) (sym e) (record { sorted = sorted code_total codes s; arranged = λ k d l. refl })

spoc_codes : (codes : List Code) → map (arrange_back spoc) codes ≡ codes
spoc_codes [] = refl
spoc_codes (k ∷ ks) = ap (λ ys. k ∷ ys) (spoc_codes ks)

pub spoc_same : (order : List Letter) (codes : List Code) → order ≡ spoc → HasSame codes (map (arrange_back order) codes)
spoc_same order codes e = subst (λ o. HasSame codes (map (arrange_back o) codes)) (sym e) (record { counts = λ test. ap (count_by test) (sym (spoc_codes codes)) })

-- ---- the part of a run between two keys

pub between_is : (codes : List Code) (first last : Code) (start upper end : ℕ) → start ≤ end → upper ≤ end → end ≤ length codes
    → ((k : ℕ) (d : Code) → k < start → is_lt (code_cmp (get_or codes k d) first) ≡ true)
    → ((k : ℕ) (d : Code) → upper ≤ k → k < length codes → is_le (code_cmp (get_or codes k d) last) ≡ false)
    → (test : Code → Bool) → All (λ k. test k ≡ true → IsFromTo first last k) codes → filter test (slice_range codes start end) ≡ filter test codes
between_is codes first last start upper end l u m below above test h =
    middle test codes start end l m
    (λ k d b. refuted _ (λ t. both _ (below k d b) (h k d (omega arith) t).from))
    (λ k d a b. refuted _ (λ t. both _ (h k d b t).to (above k d (omega arith) b)))

-- ---- what a run answers

from_to : (order : List Letter) (low high key : Code) → arrange order (arrange_back order key) ≡ key → is_within low high (arrange_back order key) ≡ true
    → IsFromTo (arrange order low) (arrange order high) key
from_to order low high key e w = record {
  from = refuted _ (λ b. not_lt _ _ (code_total.antisymm key (arrange order low)) (subst (λ (k : Code). is_le (code_cmp (arrange order low) k) ≡ true) e (low_le order low high (arrange_back order key) w)) b);
  to = subst (λ (k : Code). is_le (code_cmp k (arrange order high)) ≡ true) e (le_high order low high (arrange_back order key) w);
}

module _ (order : List Letter) (keys part : List Code) (low high first last : Code) (r : IsRun order keys) (e : first ≡ arrange order low) (f : last ≡ arrange order high)
    (h : (test : Code → Bool) → All (λ k. test k ≡ true → IsFromTo first last k) keys → filter test part ≡ filter test keys) where
  -- the part has all keys of codes within bounds
  part_has : (test : Code → Bool) → ((k : Code) → test k ≡ true → is_within low high k ≡ true) → filter (λ k. test (arrange_back order k)) part ≡ filter (λ k. test (arrange_back order k)) keys
  part_has test w = h (λ k. test (arrange_back order k)) (λ k d b t. subst (λ (bound : Code). IsFromTo bound last (get_or keys k d)) (sym e)
      (subst (λ (bound : Code). IsFromTo (arrange order low) bound (get_or keys k d)) (sym f) (from_to order low high (get_or keys k d) (r.arranged k d b) (w _ t))))

  pub matching_is : filter (is_within low high) (map (arrange_back order) part) ≡ filter (is_within low high) (map (arrange_back order) keys)
  matching_is = filter-map (is_within low high) (arrange_back order) part ∙ ap (map (arrange_back order)) (part_has (is_within low high) (λ k t. t)) ∙ sym (filter-map (is_within low high) (arrange_back order) keys)

  pub near_is : HasSameWithin low high (map (arrange_back order) keys) (map (arrange_back order) part)
  near_is = record {
    counts = λ test w.
        count-map test (arrange_back order) keys
        ∙ sym (length-filter (λ k. test (arrange_back order k)) keys)
        ∙ ap length (sym (part_has test w))
        ∙ length-filter (λ k. test (arrange_back order k)) part
        ∙ sym (count-map test (arrange_back order) part);
  }

-- what a run has of the codes within bounds, its part has
pub near_same : (low high : Code) (codes keys part : List Code) → HasSame codes keys → HasSameWithin low high keys part → HasSameWithin low high codes part
near_same low high codes keys part s n = record { counts = λ test w. s.counts test ∙ n.counts test w }
