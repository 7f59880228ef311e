use Rattle.std.proofs.Common.{◌≡◌, ℕ, ◌+◌, ◌*◌, ◌^◌, ◌<◌, ◌≤◌, true, false, cond, nat_lt, Some, None, sym, refl, arith, subst}
use Rattle.std.specs.Char.{digit_value}
use Rattle.std.proofs.lemmas.Bool.Decides.{nat_tests}
use Rattle.std.proofs.Math.Pow.{pow_mono}
use Rattle.http_frame.specs.Chunks.{is_hex}
use Rattle.http_frame.specs.Places.{hex_digit}
use Rattle.http_frame.proofs.PlaceLemmas.{digit_more}
use Rattle.http_frame.proofs.chunk.size_step.Goals as goal

lt_of : (m n : ℕ) → nat_lt m n ≡ true → m < n
lt_of m n e = grind (arith, nat_tests)

digit_small : (b v : ℕ) → hex_digit b ≡ Some v → v < 16
digit_small b v e =
    elim (is_hex b) as (λ t. is_hex b ≡ t → cond t (Some (digit_value b)) None ≡ Some v → v < 16) [
      | true ↦ λ h k. let same : digit_value b ≡ v = cc in omega (arith, lt_of (digit_value b) 16 h)
      | false ↦ λ h k. cc
    ] refl e

number_small : (digits size : ℕ) → digits < 16 → size < 2 ^ (4 * digits) → size < 2 ^ 60
number_small digits size few small =
    let at_most : 2 ^ (4 * digits) ≤ 2 ^ 60 = pow_mono {i = 4 * digits} {j = 60} (omega arith) in
    omega (arith, at_most, small)

pub overflow_mul-result : goal.overflow_mul-result
overflow_mul-result c = omega (arith, number_small c.args.digits c.args.size c.if-digits-lt-MOST_DIGITS.true c.requires.1)

pub overflow_add-result-then-digits-lt-MOST_DIGITS :
    goal.overflow_add-result-then-digits-lt-MOST_DIGITS
overflow_add-result-then-digits-lt-MOST_DIGITS c =
    let value = digit_small c.args.byte c.in-Some.value (sym c.in-Some.ensures) in
    omega (arith, number_small c.args.digits c.args.size c.if-digits-lt-MOST_DIGITS.true c.requires.1, c.from.ensures)

pub returns-then-digits-lt-MOST_DIGITS-clause-reached :
    goal.returns-then-digits-lt-MOST_DIGITS-clause-reached
returns-then-digits-lt-MOST_DIGITS-clause-reached c =
    let value = digit_small c.args.byte c.in-Some.value (sym c.in-Some.ensures) in
    let small = digit_more c.args.digits c.args.size c.in-Some.value c.requires.1 value in
    ((omega arith, subst (λ v. c.args.size * 16 + v < 2 ^ (4 * (c.args.digits + 1))) (sym c.from.ensures) small), omega arith)
