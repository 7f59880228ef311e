-- Where the first line of a text ends.
use Rattle.std.proofs.Common.{◌≡◌, ℕ, ◌+◌, ◌<◌, List, [], ◌∷◌, ◌++◌, Bool, true, false, length, take, drop, get_or, Some, refl, sym, ap, ◌∙◌, subst, arith, ◌||◌, suc, zero, add-one}
use Rattle.std.specs.Prelude.{if◌then◌else◌}
use Rattle.std.proofs.lemmas.List.Folds.{list_any-append}
use Rattle.std.proofs.Math.Seq.{take-suc}
use Rattle.client_script.specs.Inputs.{is_lf, cut_line, first_line}
use Rattle.client_script.specs.Waits.{has_lf}

-- a first part without LF, and one byte more that is none
pub none_more : (bytes : List ℕ) (n : ℕ) → has_lf (take n bytes) ≡ false → is_lf (get_or bytes n 0) ≡ false → n < length bytes → has_lf (take (n + 1) bytes) ≡ false
none_more bytes n none here within =
    let longer : take (n + 1) bytes ≡ take n bytes ++ (get_or bytes n 0 ∷ []) = ap (λ (m : ℕ). take m bytes) (add-one n) ∙ take-suc bytes n 0 within in
    ap has_lf longer ∙ list_any-append is_lf (take n bytes) (get_or bytes n 0 ∷ [])
    ∙ ap (λ (b : Bool). b || (is_lf (get_or bytes n 0) || false)) none ∙ ap (λ (b : Bool). b || false) here

or_false : (a b : Bool) → (a || b) ≡ false → (a ≡ false) × (b ≡ false)
or_false true b e = cc
or_false false b e = (refl, e)

-- the bytes before an LF are the first line
pub cut_at : (held rest : List ℕ) (n : ℕ) → n < length held → has_lf (take n held) ≡ false → get_or held n 0 ≡ 10
    → cut_line (held ++ rest) ≡ (take n held, drop (suc n) held ++ rest)
cut_at [] rest n within none at = absurd (omega arith)
cut_at (b ∷ bs) rest zero within none at =
    let P : ℕ → Type 0 = λ c. cut_line (c ∷ (bs ++ rest)) ≡ ([], bs ++ rest) in
    subst P (sym at) refl
cut_at (b ∷ bs) rest (suc n) within none at =
    let parts = or_false (is_lf b) (has_lf (take n bs)) none in
    let choose : Bool → List ℕ × List ℕ = λ t. if t then ([], bs ++ rest) else (b ∷ (cut_line (bs ++ rest)).0, (cut_line (bs ++ rest)).1) in
    let more : List ℕ × List ℕ → List ℕ × List ℕ = λ x. (b ∷ x.0, x.1) in
    let fewer : n < length bs = omega arith in
    ap choose parts.0 ∙ ap more (cut_at bs rest n fewer parts.1 at)

-- bytes without LF are one line
pub cut_none : (held : List ℕ) → has_lf held ≡ false → cut_line held ≡ (held, [])
cut_none [] none = refl
cut_none (b ∷ bs) none =
    let parts = or_false (is_lf b) (has_lf bs) none in
    let choose : Bool → List ℕ × List ℕ = λ t. if t then ([], bs) else (b ∷ (cut_line bs).0, (cut_line bs).1) in
    let more : List ℕ × List ℕ → List ℕ × List ℕ = λ x. (b ∷ x.0, x.1) in
    ap choose parts.0 ∙ ap more (cut_none bs parts.1)

-- bytes without LF are a part of the first line
pub cut_long : (held rest : List ℕ) → has_lf held ≡ false → (cut_line (held ++ rest)).0 ≡ held ++ (cut_line rest).0
cut_long [] rest none = refl
cut_long (b ∷ bs) rest none =
    let parts = or_false (is_lf b) (has_lf bs) none in
    let choose : Bool → List ℕ × List ℕ = λ t. if t then ([], bs ++ rest) else (b ∷ (cut_line (bs ++ rest)).0, (cut_line (bs ++ rest)).1) in
    ap (λ (t : Bool). (choose t).0) parts.0 ∙ ap (λ (l : List ℕ). b ∷ l) (cut_long bs rest parts.1)

-- a text that holds a byte has a first line
pub first_is : (b : List ℕ) → 0 < length b → first_line b ≡ Some (cut_line b)
first_is [] some = absurd (omega arith)
first_is (x ∷ b) some = refl
