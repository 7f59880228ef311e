-- The digits behind LIMIT and OFFSET.
use Rattle.std.proofs.Common.{◌≡◌, ◌≢◌, ◌<◌, ◌≤◌, ◌^◌, ℕ, Bool, true, false, if◌then◌else◌, nat_le, List, [], ◌∷◌, refl, ◌∙◌, ap, length, arith, rules, encode_utf8_all, Option, Some, None}
use Rattle.std.specs.List.{list_all}
use Rattle.std.specs.Char.{is_ascii_digit}
use Rattle.std.specs.Fmt.{decimal}
use Rattle.std.specs.Str.Parse.{digits_value}
use Rattle.std.proofs.lemmas.Bool.Decides.{nat_tests}
use Rattle.std.proofs.lemmas.Fmt.{digits_decimal, digits_value-decimal, length-decimal-le, decimal_nonempty, IsAscii-decimal}
use Rattle.std.proofs.lemmas.Str.{encodes-IsAscii}
use Rattle.std.proofs.lemmas.Str.Parse.{IsNumeralModel, numerals_by_value}
use Rattle.query_print.proofs.Truths.{both, split}
use Rattle.rdf_term.specs.Classes.{is_digit}
use Rattle.query_grammar.specs.Values.{is_count, count_of}
use Rattle.query_model.specs.WellFormed.{IsCount}

-- texts of digits are numerals
pub own : IsNumeralModel (λ ds. list_all is_ascii_digit ds ≡ true) (digits_value 10)
own = numerals_by_value _ (search rules)

fits : (n : ℕ) → IsCount n → n < 2 ^ 64
fits n h = omega arith

then_is : (b : Bool) (o : Option ℕ) → b ≡ true → (if b then o else None) ≡ o
then_is true o e = refl
then_is false o e = cc

at_most : (a b : ℕ) → a ≤ b → nat_le a b ≡ true
at_most a b h = grind (arith, nat_tests)

decimal_counts : (n : ℕ) → IsCount n → is_count (decimal n) ≡ true
decimal_counts n h =
    let ds = decimal n in
    both (list_all is_ascii_digit ds) _ (digits_decimal own n (fits n h))
    (both (nat_le 1 (length ds)) (nat_le (length ds) 18) (at_most 1 (length ds) (decimal_nonempty n (fits n h)))
    (at_most (length ds) 18 (length-decimal-le 18 n (omega arith) h (fits n h))))

-- the number is read again
pub decimal_read : (n : ℕ) → IsCount n → count_of (encode_utf8_all (decimal n)) ≡ Some n
unfolding count_of
decimal_read n h =
    ap (λ (ds : List ℕ). if is_count ds then Some (digits_value 10 ds) else None) (encodes-IsAscii (decimal n) (IsAscii-decimal n (fits n h)))
    ∙ then_is (is_count (decimal n)) (Some (digits_value 10 (decimal n))) (decimal_counts n h)
    ∙ ap Some (digits_value-decimal own n (fits n h))

digit_too : (c : ℕ) → is_ascii_digit c ≡ true → is_digit c ≡ true
digit_too c h = grind (arith, nat_tests)

digits_too : (ds : List ℕ) → list_all is_ascii_digit ds ≡ true → list_all is_digit ds ≡ true
digits_too [] h = refl
digits_too (d ∷ ds) h =
    let parts = split (is_ascii_digit d) (list_all is_ascii_digit ds) h in
    both (is_digit d) (list_all is_digit ds) (digit_too d parts.0) (digits_too ds parts.1)

pub decimal_digits : (n : ℕ) → IsCount n → list_all is_digit (decimal n) ≡ true
decimal_digits n h = digits_too (decimal n) (digits_decimal own n (fits n h))

pub decimal_some : (n : ℕ) → IsCount n → decimal n ≢ []
decimal_some n h = λ e. absurd (omega (arith, decimal_nonempty n (fits n h), ap length e))
