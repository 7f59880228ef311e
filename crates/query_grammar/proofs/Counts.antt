-- At most 18 digits write a number of 64 bits.
use Rattle.std.proofs.Common.{◌≡◌, ℕ, ◌≤◌, List, Bool, true, false, ◌&&◌, if◌then◌else◌, nat_le, rules, length, arith, refl, ap, sym, ◌∙◌, Option, Some, None}
use Rattle.std.specs.List.{list_all}
use Rattle.std.specs.Char.{is_ascii_digit}
use Rattle.std.specs.Str.Parse.{digits_value, ParsesUnsigned}
use Rattle.std.specs.declared.result.Result.{Result}
use Rattle.std.specs.declared.result.Result.TheVariants.{Ok, Err}
use Rattle.std.proofs.lemmas.Str.Parse.{IsNumeralModel, numerals_by_value, digits_value_short, parse_gives}
use Rattle.std.proofs.lemmas.Bool.Decides.{nat_tests}
use Rattle.query_grammar.specs.Values.{is_count, count_of}

own : IsNumeralModel (λ ds. list_all is_ascii_digit ds ≡ true) (digits_value 10)
own = numerals_by_value _ (search rules)

split : (a b : Bool) → (a && b) ≡ true → (a ≡ true) × (b ≡ true)
split true b e = (refl, e)
split false b e = cc

pub parsed : (bs : List ℕ) {E : Type 0} (r : Result ℕ E) → ParsesUnsigned 64 10 bs r → is_count bs ≡ true → r ≡ Ok (digits_value 10 bs)
parsed bs r h e =
    let a = split (list_all is_ascii_digit bs) _ e in
    let b = split (nat_le 1 (length bs)) _ a.1 in
    let some : 1 ≤ length bs = grind (arith, nat_tests, b.0) in
    let few : length bs ≤ 18 = grind (arith, nat_tests, b.1) in
    parse_gives own 64 bs r h a.0 (omega arith) (omega (arith, digits_value_short own bs 18 a.0 few))

then_is : (b : Bool) (o : Option ℕ) → b ≡ true → (if b then o else None) ≡ o
then_is true o e = refl
then_is false o e = cc

pub counted_ok : (bs : List ℕ) {E : Type 0} (r : Result ℕ E) (n : ℕ) → ParsesUnsigned 64 10 bs r → is_count bs ≡ true → r ≡ Ok n → Some n ≡ count_of bs
unfolding count_of
counted_ok bs r n h e k =
    let p = parsed bs r h e in
    let same : n ≡ digits_value 10 bs = cc in
    ap Some same ∙ sym (then_is (is_count bs) (Some (digits_value 10 bs)) e)

pub counted_err : (bs : List ℕ) {E : Type 0} (r : Result ℕ E) (x : E) → ParsesUnsigned 64 10 bs r → is_count bs ≡ true → r ≡ Err x → ⊥
counted_err bs r x h e k = let p = parsed bs r h e in cc
