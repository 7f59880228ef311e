-- Numbers as decimal digits.
use Rattle.std.proofs.Common.{◌≡◌, ℕ, ◌<◌, ◌^◌, List, Bool, true, false, ◌&&◌, if◌then◌else◌, nat_lt, rules, length, refl, ap, sym, subst, Option, Some, None, decimal}
use Rattle.std.specs.List.{list_all}
use Rattle.std.specs.Char.{is_ascii_digit}
use Rattle.std.specs.Result.{OkIff}
use Rattle.std.specs.Str.{IsUtf8}
use Rattle.std.specs.Str.Parse.{digits_value, ParsesUnsigned}
use Rattle.std.specs.declared.result.Result.{Result}
use Rattle.std.specs.declared.result.Result.TheVariants.{Ok, Err}
use Rattle.std.proofs.lemmas.Bool.{lt-ltb, ltb-true}
use Rattle.std.proofs.lemmas.Fmt.{IsAscii-from_digits, decimal_is_IsNumeral}
use Rattle.std.proofs.lemmas.Str.{IsUtf8-from_ascii}
use Rattle.std.proofs.lemmas.Str.Parse.{IsNumeralModel, numerals_by_value, parse_digits}
use Rattle.reply_reading.specs.Counts.{is_numeral, count_of}

own : IsNumeralModel (λ ds. list_all is_ascii_digit ds ≡ true) (digits_value 10)
own = numerals_by_value _ (search rules)

pub both : (a b : Bool) → (a && b) ≡ true → (a ≡ true) × (b ≡ true)
both true b e = (refl, e)
both false b e = cc

-- a numeral is UTF-8
pub numeral_utf8 : (text : List ℕ) → is_numeral text ≡ true → IsUtf8 text
numeral_utf8 text e = IsUtf8-from_ascii text (IsAscii-from_digits text (own.to text (both (nat_lt 0 (length text)) _ e).1))

dropped : (a b : Bool) (o : Option ℕ) → a ≡ false → None ≡ (if a && b then o else None)
dropped true b o e = cc
dropped false b o e = refl

-- what is no numeral has no number
pub no_numeral : (text : List ℕ) → is_numeral text ≡ false → None ≡ count_of text
unfolding count_of
no_numeral text e = dropped (is_numeral text) _ _ e

kept : (a b : Bool) (v n : ℕ) → a ≡ true → b ≡ true → n ≡ v → Some n ≡ (if a && b then Some v else None)
kept true true v n a b e = ap Some e
kept true false v n a b e = cc
kept false b v n a c e = cc

lost : (a b : Bool) (v : ℕ) → (b ≡ true → ⊥) → None ≡ (if a && b then Some v else None)
lost true true v never = absurd (never refl)
lost true false v never = refl
lost false b v never = refl

told : (text : List ℕ) {E : Type 0} (r : Result ℕ E) → ParsesUnsigned 64 10 text r → is_numeral text ≡ true
    → OkIff r ((0 < length text) × (digits_value 10 text < 2 ^ 64)) (digits_value 10 text)
told text r h e = parse_digits own 64 text r h (both (nat_lt 0 (length text)) _ e).1

-- a numeral that is parsed has the number
pub counted : (text : List ℕ) {E : Type 0} (r : Result ℕ E) (n : ℕ) → ParsesUnsigned 64 10 text r → is_numeral text ≡ true → r ≡ Ok n
    → Some n ≡ count_of text
unfolding count_of
counted text {E} r n h e k =
    let at = subst (λ (x : Result ℕ E). OkIff x ((0 < length text) × (digits_value 10 text < 2 ^ 64)) (digits_value 10 text)) k (told text r h e) in
    kept (is_numeral text) (nat_lt (digits_value 10 text) (2 ^ 64)) (digits_value 10 text) n e (lt-ltb _ _ at.0.1) at.1

-- and one that isn't is too large
pub uncounted : (text : List ℕ) {E : Type 0} (r : Result ℕ E) (x : E) → ParsesUnsigned 64 10 text r → is_numeral text ≡ true → r ≡ Err x
    → None ≡ count_of text
unfolding count_of
uncounted text {E} r x h e k =
    let never = subst (λ (y : Result ℕ E). OkIff y ((0 < length text) × (digits_value 10 text < 2 ^ 64)) (digits_value 10 text)) k (told text r h e) in
    let some : 0 < length text = ltb-true _ _ (both (nat_lt 0 (length text)) _ e).0 in
    lost (is_numeral text) (nat_lt (digits_value 10 text) (2 ^ 64)) (digits_value 10 text) (λ small. never (some, ltb-true _ _ small))

pub joined : (a b : Bool) → a ≡ true → b ≡ true → (a && b) ≡ true
joined true b a e = e
joined false b a e = cc

-- the digits of a number write it
pub count_again : (n : ℕ) → n < 2 ^ 64 → count_of (decimal n) ≡ Some n
unfolding count_of
count_again n h =
    let is = decimal_is_IsNumeral n h in
    let small : digits_value 10 (decimal n) < 2 ^ 64 = subst (λ (v : ℕ). v < 2 ^ 64) (sym is.1) h in
    sym (kept (is_numeral (decimal n)) (nat_lt (digits_value 10 (decimal n)) (2 ^ 64)) (digits_value 10 (decimal n)) n
    (joined _ _ (lt-ltb _ _ is.0.0) (own.from (decimal n) is.0.1)) (lt-ltb _ _ small) (sym is.1))
