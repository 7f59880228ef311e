use Rattle.std.proofs.Common.{◌≡◌, ◌+◌, ◌-◌, ◌*◌, ◌<◌, ◌≤◌, List, ℕ, [], ◌∷◌, take, length, get_or, arith, ap, ◌∙◌}
use Rattle.std.proofs.lemmas.Grind.{fold-append, take_at_read}
use Rattle.http_frame.specs.Framing.{decimal_value}
use Rattle.http_frame.proofs.framing.number_of.Goals as goal

digit_more : (xs : List ℕ) (i : ℕ) → i < length xs → decimal_value (take (i + 1) xs) ≡ decimal_value (take i xs) * 10 + (get_or xs i 0 - 48)
digit_more xs i h = ap decimal_value (take_at_read xs i 0 h).1 ∙ fold-append (λ (n d : ℕ). n * 10 + (d - 48)) 0 (take i xs) (get_or xs i 0 ∷ [])

within_more : (n m v v' d : ℕ) → (n ≤ 536870912 → n ≡ v) → (536870912 < n → 536870912 < v) → v' ≡ v * 10 + d
    → (n ≤ 536870912 → m ≡ n * 10 + d) → (536870912 < n → m ≡ n) → m ≤ 536870912 → m ≡ v'
within_more n m v v' d a b e f h k = grind arith

over_more : (n m v v' d : ℕ) → (n ≤ 536870912 → n ≡ v) → (536870912 < n → 536870912 < v) → v' ≡ v * 10 + d
    → (n ≤ 536870912 → m ≡ n * 10 + d) → (536870912 < n → m ≡ n) → 536870912 < m → 536870912 < v'
over_more n m v v' d a b e f h k = grind arith

pub loop-digit-preserved : goal.loop-digit-preserved
loop-digit-preserved c =
    let n = c.loop-digit.number in
    let i = c.loop-digit.digit-index in
    let xs = c.args.value.now in
    let inv = c.loop-digit.invariant in
    let step = c.with_digit-number.ensures in
    let more = digit_more xs i c.loop-digit-test.true in
    record {
      within = within_more n c.with_digit-number.result (decimal_value (take i xs)) (decimal_value (take (i + 1) xs)) (get_or xs i 0 - 48) inv.within inv.over more step.within step.over;
      over = over_more n c.with_digit-number.result (decimal_value (take i xs)) (decimal_value (take (i + 1) xs)) (get_or xs i 0 - 48) inv.within inv.over more step.within step.over;
      room = step.room;
    }
