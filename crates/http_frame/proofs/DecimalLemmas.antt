-- The digits that write a number.
use Rattle.std.proofs.Common.{◌≡◌, ◌∙◌, ℕ, ◌+◌, ◌-◌, ◌*◌, ◌/◌, ◌%◌, ◌^◌, ◌≤◌, ◌<◌, List, [], ◌∷◌, ◌++◌, Bool, true, false, ◌&&◌, cond, length, reverse, decimal, sym, ap, ap₂, refl, arith, length-append, IsTrue}
use Rattle.std.specs.List.{list_all}
use Rattle.std.specs.Char.{is_ascii_digit}
use Rattle.std.specs.Str.Parse.{digits_value}
use Rattle.std.proofs.lemmas.Bool.Decides.{nat_tests}
use Rattle.std.proofs.lemmas.Fmt.{decimal_by_steps, decimal_is_IsNumeral}
use Rattle.std.proofs.lemmas.Grind.{fold-append}
use Rattle.std.proofs.lemmas.List.{reverse-reverse}
use Rattle.std.proofs.lemmas.List.Elements.{All-head, All-weaker}
use Rattle.std.proofs.lemmas.List.Folds.{list_all-append}
use Rattle.std.proofs.lemmas.List.Sums.{AllPass-from_list_all}
use Rattle.httparse.specs.Grammar.{AllPass, is_ows, skip_ows, trim_ows, is_value_byte}
use Rattle.httparse.proofs.TrimLemmas.{AllPass-reverse}
use Rattle.http_frame.specs.Framing.{decimal_value}

digit : (d : ℕ) → d < 10 → is_ascii_digit (48 + d) ≡ true
digit d h = grind (arith, nat_tests)

-- what is said of them: they are digits, they write the number, and they are as many as it wants
pub record Writes (n : ℕ) (ds : List ℕ) : Type 0 where
  pub all : list_all is_ascii_digit ds ≡ true
  pub value : decimal_value ds ≡ n
  pub some : 0 < length ds
  pub two : 10 ≤ n → 2 ≤ length ds
  pub three : 100 ≤ n → 3 ≤ length ds

one_digit : (n : ℕ) → n < 10 → Writes n ((48 + n) ∷ [])
one_digit n h = record {
  all = ap (λ t. t && true) (digit n h);
  value = omega arith;
  some = omega arith;
  two = λ more. omega arith;
  three = λ more. omega arith;
}

more_digits : (n : ℕ) (ds : List ℕ) → 10 ≤ n → Writes (n / 10) ds → Writes n (ds ++ ((48 + n % 10) ∷ []))
more_digits n ds h w =
    let last : n % 10 < 10 = omega arith in
    let size = length-append ds ((48 + n % 10) ∷ []) in
    let some = w.some in
    record {
      all = list_all-append is_ascii_digit ds ((48 + n % 10) ∷ []) ∙ ap₂ (λ t u. t && (u && true)) w.all (digit (n % 10) last);
      value = fold-append (λ (m d : ℕ). m * 10 + (d - 48)) 0 ds ((48 + n % 10) ∷ []) ∙ ap (λ m. m * 10 + ((48 + n % 10) - 48)) w.value ∙ omega arith;
      some = omega arith;
      two = λ more. omega arith;
      three = λ more. let few = w.two (omega arith) in omega arith;
    }

pub writes : (n : ℕ) → n < 2 ^ 64 → Writes n (decimal n)
writes n h = decimal_by_steps Writes one_digit more_digits n h

pub code_value : (n : ℕ) → n < 2 ^ 64 → digits_value 10 (decimal n) ≡ n
code_value n h = (decimal_is_IsNumeral n h).1

-- digits are bytes of a value, and have no white space at their ends

digit_in_value : (b : ℕ) → is_ascii_digit b ≡ true → is_value_byte b ≡ true
digit_in_value b h = grind (arith, nat_tests)

digit_no_blank : (b : ℕ) → is_ascii_digit b ≡ true → is_ows b ≡ false
digit_no_blank b h = grind (arith, nat_tests)

skips_none : (xs : List ℕ) → AllPass is_ascii_digit xs → skip_ows xs ≡ xs
skips_none [] p = refl
skips_none (x ∷ xs) p = ap (λ t. cond t (skip_ows xs) (x ∷ xs)) (digit_no_blank x (All-head (λ b. IsTrue (is_ascii_digit b)) x xs p))

pub digits_trimmed : (xs : List ℕ) → AllPass is_ascii_digit xs → trim_ows xs ≡ xs
unfolding trim_ows
digits_trimmed xs p =
    ap (λ (z : List ℕ). reverse (skip_ows (reverse z))) (skips_none xs p)
    ∙ ap reverse (skips_none (reverse xs) (AllPass-reverse is_ascii_digit xs p)) ∙ reverse-reverse xs

pub digits_pass : (xs : List ℕ) → AllPass is_ascii_digit xs → AllPass is_value_byte xs
digits_pass xs p = All-weaker (λ b. is_ascii_digit b ≡ true) (λ b. is_value_byte b ≡ true) digit_in_value xs p

pub are_digits : (n : ℕ) → n < 2 ^ 64 → AllPass is_ascii_digit (decimal n)
are_digits n h = AllPass-from_list_all is_ascii_digit (decimal n) (writes n h).all
