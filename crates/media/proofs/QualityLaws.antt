-- The grammar of qualities and the definitions that compute them.
use Rattle.std.proofs.Common.{◌≡◌, refl, ap, sym, ◌∙◌, ℕ, ◌+◌, ◌*◌, ◌-◌, ◌^◌, ◌<◌, ◌≤◌, Bool, true, false, IsTrue, ◌&&◌, ◌==◌, cond, List, [], ◌∷◌, ◌++◌, length, Option, Some, None, ◌⊎◌, inl, inr, arith}
use Rattle.std.specs.List.{All, after_first, before_first, filter, list_all}
use Rattle.std.specs.Char.{is_ascii_digit, to_ascii_lowercase}
use Rattle.std.proofs.lemmas.Bool.Decides.{nat_tests}
use Rattle.std.proofs.lemmas.List.Elements.{All-nil, All-cons, All-head, All-tail, filter-append}
use Rattle.media.specs.Pieces.{is_equals, trimmed}
use Rattle.media.specs.Quality.{decimals, fraction, in_thousandths, is_q, is_weight, is_zero, one_weight, quality_by, qvalue, weight_of, weight_value, weights}
use Rattle.media.specs.Grammar.{IsFraction, IsQuality, IsQvalue, IsWeight, number}
use Rattle.media.proofs.PieceLaws.{all_of, both, cut_at}

-- an equation of a choice
chosen_some : (b : Bool) (o : Option ℕ) (n : ℕ) → cond b o None ≡ Some n → (b ≡ true) × (o ≡ Some n)
chosen_some true o n e = (refl, e)
chosen_some false o n e = cc

three : (a b c : Bool) → (a && b && c) ≡ true → (a ≡ true) × (b ≡ true) × (c ≡ true)
three true true c e = (refl, refl, e)
three true false c e = cc
three false b c e = cc

digits_some : (a b c n : ℕ) → in_thousandths a b c ≡ Some n
    → (is_ascii_digit a ≡ true) × (is_ascii_digit b ≡ true) × (is_ascii_digit c ≡ true) × (n ≡ 100 * (a - 48) + 10 * (b - 48) + (c - 48))
digits_some a b c n e =
    let w = chosen_some (is_ascii_digit a && is_ascii_digit b && is_ascii_digit c) (Some (100 * (a - 48) + 10 * (b - 48) + (c - 48))) n e in
    let v = three (is_ascii_digit a) (is_ascii_digit b) (is_ascii_digit c) w.0 in
    (v.0, v.1, v.2, cc (w.1))

-- decimals of the grammar
abbrev AreDecimals : List ℕ → ℕ → Type 0
AreDecimals digits n = IsTrue (list_all is_ascii_digit digits) × (length digits ≤ 3) × (n ≡ number digits * 10 ^ (3 - length digits))

are_decimals : (digits : List ℕ) (n : ℕ) → decimals digits ≡ Some n → AreDecimals digits n
are_decimals [] n e = let z : n ≡ 0 = cc in (refl, omega arith, z)
are_decimals (a ∷ []) n e =
    let w = digits_some a 48 48 n e in
    (all_of (is_ascii_digit a) true w.0 refl, omega arith, w.3 ∙ (omega arith))
are_decimals (a ∷ b ∷ []) n e =
    let w = digits_some a b 48 n e in
    (all_of (is_ascii_digit a) (is_ascii_digit b && true) w.0 (all_of (is_ascii_digit b) true w.1 refl), omega arith, w.3 ∙ (omega arith))
are_decimals (a ∷ b ∷ c ∷ []) n e =
    let w = digits_some a b c n e in
    (all_of (is_ascii_digit a) (is_ascii_digit b && (is_ascii_digit c && true)) w.0 (all_of (is_ascii_digit b) (is_ascii_digit c && true) w.1 (all_of (is_ascii_digit c) true w.2 refl)), omega arith, w.3 ∙ (omega arith))
are_decimals (a ∷ b ∷ c ∷ d ∷ more) n e = cc

some_digits : (a b c n : ℕ) → is_ascii_digit a ≡ true → is_ascii_digit b ≡ true → is_ascii_digit c ≡ true → n ≡ 100 * (a - 48) + 10 * (b - 48) + (c - 48) → in_thousandths a b c ≡ Some n
some_digits a b c n x y z e =
    let k = all_of (is_ascii_digit a && is_ascii_digit b) (is_ascii_digit c) (all_of (is_ascii_digit a) (is_ascii_digit b) x y) z in
    ap (λ t. cond t (Some (100 * (a - 48) + 10 * (b - 48) + (c - 48))) None) k ∙ ap (λ m. Some m) (sym e)

some_decimals : (digits : List ℕ) (n : ℕ) → AreDecimals digits n → decimals digits ≡ Some n
some_decimals [] n h = let z : n ≡ 0 = omega (arith, h.2) in ap (λ m. Some m) (sym z)
some_decimals (a ∷ []) n h =
    let x = both (is_ascii_digit a) true h.0 in
    some_digits a 48 48 n x.0 refl refl (h.2 ∙ (omega arith))
some_decimals (a ∷ b ∷ []) n h =
    let x = both (is_ascii_digit a) (is_ascii_digit b && true) h.0 in
    let y = both (is_ascii_digit b) true x.1 in
    some_digits a b 48 n x.0 y.0 refl (h.2 ∙ (omega arith))
some_decimals (a ∷ b ∷ c ∷ []) n h =
    let x = both (is_ascii_digit a) (is_ascii_digit b && (is_ascii_digit c && true)) h.0 in
    let y = both (is_ascii_digit b) (is_ascii_digit c && true) x.1 in
    let z = both (is_ascii_digit c) true y.1 in
    some_digits a b c n x.0 y.0 z.0 (h.2 ∙ (omega arith))
some_decimals (a ∷ b ∷ c ∷ d ∷ more) n h = absurd (omega (arith, h.1))

number_is : (a b : ℕ) → (a == b) ≡ true → a ≡ b
number_is a b e = grind (arith, nat_tests)

is_number : (a b : ℕ) → a ≡ b → (a == b) ≡ true
is_number a b e = grind (arith, nat_tests)

is_fraction : (rest : List ℕ) (n : ℕ) → fraction rest ≡ Some n → IsFraction rest n
is_fraction [] n e = let z : n ≡ 0 = cc in z
is_fraction (point ∷ digits) n e =
    let w = chosen_some (point == 46) (decimals digits) n e in
    let d = are_decimals digits n w.1 in
    (number_is point 46 w.0, d.0, d.1, d.2)

some_fraction : (rest : List ℕ) (n : ℕ) → IsFraction rest n → fraction rest ≡ Some n
some_fraction [] n h = ap (λ m. Some m) (sym h)
some_fraction (point ∷ digits) n h =
    ap (λ t. cond t (decimals digits) None) (is_number point 46 h.0) ∙ some_decimals digits n (h.1, h.2, h.3)

zero_some : (o : Option ℕ) → is_zero o ≡ true → o ≡ Some 0
zero_some None e = cc
zero_some (Some n) e = ap (λ m. Some m) (number_is n 0 e)

qvalue_by : (zero one : Bool) (o : Option ℕ) (n : ℕ) → cond zero o (cond (one && is_zero o) (Some 1000) None) ≡ Some n
    → ((zero ≡ true) × (o ≡ Some n)) ⊎ ((one ≡ true) × (o ≡ Some 0) × (n ≡ 1000))
qvalue_by true one o n e = inl (refl, e)
qvalue_by false one o n e =
    let w = chosen_some (one && is_zero o) (Some 1000) n e in
    let v = both one (is_zero o) w.0 in
    let m : n ≡ 1000 = cc (w.1) in
    inr (v.0, zero_some o v.1, m)

pub is_qvalue : (text : List ℕ) (n : ℕ) → qvalue text ≡ Some n → IsQvalue text n
unfolding qvalue
is_qvalue [] n e = cc
is_qvalue (digit ∷ rest) n e =
    elim (qvalue_by (digit == 48) (digit == 49) (fraction rest) n e) [
      | inl w ↦ inl (number_is digit 48 w.0, is_fraction rest n w.1)
      | inr w ↦ inr (number_is digit 49 w.0, is_fraction rest 0 w.1, w.2)
    ]

pub some_qvalue : (text : List ℕ) (n : ℕ) → IsQvalue text n → qvalue text ≡ Some n
unfolding qvalue
some_qvalue [] n h = absurd h
some_qvalue (digit ∷ rest) n (inl w) =
    ap (λ t. cond t (fraction rest) (cond ((digit == 49) && is_zero (fraction rest)) (Some 1000) None)) (is_number digit 48 w.0) ∙ some_fraction rest n w.1
some_qvalue (digit ∷ rest) n (inr w) =
    ap (λ d. cond (d == 48) (fraction rest) (cond ((d == 49) && is_zero (fraction rest)) (Some 1000) None)) w.0
    ∙ ap (λ o. cond (is_zero o) (Some 1000) None) (some_fraction rest 0 w.1) ∙ ap (λ m. Some m) (sym w.2)

-- a parameter of the grammar is named q, and has its value
letter_weight : (letter : ℕ) (value : List ℕ) → (letter ≡ 113) ⊎ (letter ≡ 81) → (is_weight (letter ∷ 61 ∷ value) ≡ true) × (weight_value (letter ∷ 61 ∷ value) ≡ qvalue value)
unfolding trimmed
letter_weight letter value (inl e) =
    (ap (λ c. is_weight (c ∷ 61 ∷ value)) e, ap (λ c. weight_value (c ∷ 61 ∷ value)) e)
letter_weight letter value (inr e) =
    (ap (λ c. is_weight (c ∷ 61 ∷ value)) e, ap (λ c. weight_value (c ∷ 61 ∷ value)) e)

named_weight : (parameter : List ℕ) (n : ℕ) → IsWeight parameter n → (is_weight parameter ≡ true) × (weight_value parameter ≡ Some n)
named_weight parameter n w =
    let v = letter_weight w.letter w.value w.is_q in
    (ap is_weight w.whole ∙ v.0, ap weight_value w.whole ∙ v.1 ∙ some_qvalue w.value n w.qvalue)

letter_of : (c : ℕ) → (to_ascii_lowercase c == 113) ≡ true → (c ≡ 113) ⊎ (c ≡ 81)
letter_of c e = grind (arith, nat_tests)

is_letter : (name : List ℕ) → is_q name ≡ true → (c : ℕ) × (name ≡ c ∷ []) × ((c ≡ 113) ⊎ (c ≡ 81))
is_letter [] e = cc
is_letter (c ∷ []) e = (c, refl, letter_of c (both (to_ascii_lowercase c == 113) true e).0)
is_letter (c ∷ d ∷ more) e = cc ((both (to_ascii_lowercase c == 113) false e).1)

qvalue_length : (text : List ℕ) (n : ℕ) → qvalue text ≡ Some n → 0 < length text
unfolding qvalue
qvalue_length [] n e = cc
qvalue_length (b ∷ bs) n e = omega arith

weight_some : (parameter : List ℕ) (n : ℕ) → weight_value parameter ≡ Some n → IsWeight parameter n
weight_some parameter n e =
    let w = chosen_some (is_q (before_first is_equals parameter)) (qvalue (after_first is_equals parameter)) n e in
    let v = is_letter (before_first is_equals parameter) w.0 in
    record {
      letter = v.0;
      value = after_first is_equals parameter;
      whole = cut_at 61 parameter (qvalue_length (after_first is_equals parameter) n w.1) ∙ ap (λ l. l ++ 61 ∷ after_first is_equals parameter) v.1;
      is_q = v.2;
      qvalue = is_qvalue (after_first is_equals parameter) n w.1;
    }

-- parameters without one that passes, or with one
filter_none : (p : List ℕ → Bool) (xs : List (List ℕ)) → All (λ x. p x ≡ false) xs → filter p xs ≡ []
filter_none p [] h = refl
filter_none p (x ∷ xs) h =
    ap (λ t. cond t (x ∷ filter p xs) (filter p xs)) (All-head (λ x. p x ≡ false) x xs h) ∙ filter_none p xs (All-tail (λ x. p x ≡ false) x xs h)

none_more : (p : List ℕ → Bool) (x : List ℕ) (xs ys : List (List ℕ)) (t : Bool) → p x ≡ t → cond t (x ∷ ys) ys ≡ [] → (ys ≡ [] → All (λ x. p x ≡ false) xs) → All (λ x. p x ≡ false) (x ∷ xs)
none_more p x xs ys true e k f = cc
none_more p x xs ys false e k f = All-cons (λ x. p x ≡ false) x xs e (f k)

none_filter : (p : List ℕ → Bool) (xs : List (List ℕ)) → filter p xs ≡ [] → All (λ x. p x ≡ false) xs
none_filter p [] e = All-nil (λ x. p x ≡ false)
none_filter p (x ∷ xs) e = none_more p x xs (filter p xs) (p x) refl e (none_filter p xs)

record One (p : List ℕ → Bool) (xs : List (List ℕ)) (y : List ℕ) : Type 0 where
  before : List (List ℕ)
  behind : List (List ℕ)
  whole : xs ≡ before ++ y ∷ behind
  none_before : All (λ x. p x ≡ false) before
  none_behind : All (λ x. p x ≡ false) behind

one_more : (p : List ℕ → Bool) (x y : List ℕ) (xs ys : List (List ℕ)) (t : Bool) → p x ≡ t → cond t (x ∷ ys) ys ≡ y ∷ [] → (ys ≡ [] → All (λ x. p x ≡ false) xs) → (ys ≡ y ∷ [] → One p xs y) → One p (x ∷ xs) y
one_more p x y xs ys true e k f g =
    let same : x ≡ y = cc in
    let none : ys ≡ [] = cc in
    record { before = []; behind = xs; whole = ap (λ z. z ∷ xs) same; none_before = All-nil (λ x. p x ≡ false); none_behind = f none }
one_more p x y xs ys false e k f g =
    let w = g k in
    record { before = x ∷ w.before; behind = w.behind; whole = ap (λ l. x ∷ l) w.whole; none_before = All-cons (λ x. p x ≡ false) x w.before e w.none_before; none_behind = w.none_behind }

one_filter : (p : List ℕ → Bool) (xs : List (List ℕ)) (y : List ℕ) → filter p xs ≡ y ∷ [] → One p xs y
one_filter p [] y e = cc
one_filter p (x ∷ xs) y e = one_more p x y xs (filter p xs) (p x) refl e (none_filter p xs) (one_filter p xs y)

given_some : (o : Option ℕ) (n : ℕ) → quality_by (one_weight o) ≡ Some n → o ≡ Some n
given_some None n e = cc
given_some (Some m) n e = e

by_weights : (parameters ws : List (List ℕ)) (n : ℕ) → filter is_weight parameters ≡ ws → quality_by (weights ws) ≡ Some n → IsQuality parameters n
by_weights parameters [] n f e = let m : n ≡ 1000 = cc in inl (none_filter is_weight parameters f, m)
by_weights parameters (w ∷ []) n f e =
    let o = one_filter is_weight parameters w f in
    inr (record {
      before = o.before;
      parameter = w;
      behind = o.behind;
      whole = o.whole;
      none_before = o.none_before;
      none_behind = o.none_behind;
      weight = weight_some w n (given_some (weight_value w) n e);
    })
by_weights parameters (w ∷ v ∷ ws) n f e = cc

-- the quality of parameters is that of the grammar
pub is_quality : (parameters : List (List ℕ)) (n : ℕ) → quality_by (weight_of parameters) ≡ Some n → IsQuality parameters n
is_quality parameters n e = by_weights parameters (filter is_weight parameters) n refl e

pub some_quality : (parameters : List (List ℕ)) (n : ℕ) → IsQuality parameters n → quality_by (weight_of parameters) ≡ Some n
some_quality parameters n (inl w) = ap (λ ws. quality_by (weights ws)) (filter_none is_weight parameters w.0) ∙ ap (λ m. Some m) (sym w.1)
some_quality parameters n (inr g) =
    let w = named_weight g.parameter n g.weight in
    let one : filter is_weight parameters ≡ g.parameter ∷ [] =
    ap (filter is_weight) g.whole ∙ filter-append is_weight g.before (g.parameter ∷ g.behind)
    ∙ ap (λ l. l ++ filter is_weight (g.parameter ∷ g.behind)) (filter_none is_weight g.before g.none_before)
    ∙ ap (λ t. cond t (g.parameter ∷ filter is_weight g.behind) (filter is_weight g.behind)) w.0
    ∙ ap (λ l. g.parameter ∷ l) (filter_none is_weight g.behind g.none_behind) in
    ap (λ ws. quality_by (weights ws)) one ∙ ap (λ o. quality_by (one_weight o)) w.1
