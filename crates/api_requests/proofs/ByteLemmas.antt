-- The bytes of texts.
use Rattle.std.proofs.Common.{◌≡◌, ℕ, ◌+◌, ◌/◌, ◌%◌, ◌<◌, ltb, List, [], ◌∷◌, Bool, true, false, ◌&&◌, cond, All, refl, subst, encode_utf8_all, arith, ⊎_elim}
use Rattle.std.specs.Str.{all_scalars, IsUtf8}
use Rattle.std.proofs.Math.Utf8.{encode, scalar, scalar_cases}
use Rattle.std.proofs.lemmas.Bool.{cond_both}
use Rattle.std.proofs.lemmas.Bool.Decides.{nat_tests}
use Rattle.std.proofs.lemmas.List.Elements.{All-nil, All-cons, All-append}
use Rattle.percent_encoding.proofs.PercentLemmas.{IsByte}

pub first_of : (a b : Bool) → (a && b) ≡ true → a ≡ true
first_of true b e = refl
first_of false b e = cc

pub second_of : (a b : Bool) → (a && b) ≡ true → b ≡ true
second_of true b e = e
second_of false b e = cc

below_top : (c : ℕ) → scalar c ≡ true → c < 1114112
below_top c e = ⊎_elim (λ h. omega arith) (λ h. h.1) (scalar_cases c e)

one_byte : (b : ℕ) → b < 256 → All IsByte (b ∷ [])
one_byte b h = All-cons IsByte b [] h (All-nil IsByte)

abbrev next : ℕ → ℕ
next n = 128 + n % 64

-- the bytes of one character
encoded_bytes : (c : ℕ) → c < 1114112 → All IsByte (encode c)
unfolding encode
encoded_bytes c h =
    cond_both (ltb c 128) (c ∷ [])
    (cond (ltb c 2048) ((192 + c / 64) ∷ next c ∷ [])
    (cond (ltb c 65536) ((224 + c / 4096) ∷ next (c / 64) ∷ next c ∷ []) ((240 + c / 262144) ∷ next (c / 4096) ∷ next (c / 64) ∷ next c ∷ [])))
    (All IsByte) (λ e. let small : c < 128 = grind (arith, nat_tests) in one_byte c (omega arith))
    (λ _. cond_both (ltb c 2048) ((192 + c / 64) ∷ next c ∷ [])
    (cond (ltb c 65536) ((224 + c / 4096) ∷ next (c / 64) ∷ next c ∷ []) ((240 + c / 262144) ∷ next (c / 4096) ∷ next (c / 64) ∷ next c ∷ []))
    (All IsByte)
    (λ e. let small : c < 2048 = grind (arith, nat_tests) in All-cons IsByte (192 + c / 64) (next c ∷ []) (omega arith) (one_byte (next c) (omega arith)))
    (λ _. cond_both (ltb c 65536) ((224 + c / 4096) ∷ next (c / 64) ∷ next c ∷ []) ((240 + c / 262144) ∷ next (c / 4096) ∷ next (c / 64) ∷ next c ∷ []) (All IsByte)
    (λ e. let small : c < 65536 = grind (arith, nat_tests) in
    All-cons IsByte (224 + c / 4096) (next (c / 64) ∷ next c ∷ []) (omega arith) (All-cons IsByte (next (c / 64)) (next c ∷ []) (omega arith) (one_byte (next c) (omega arith))))
    (λ _.
    All-cons IsByte (240 + c / 262144) (next (c / 4096) ∷ next (c / 64) ∷ next c ∷ []) (omega arith)
    (All-cons IsByte (next (c / 4096)) (next (c / 64) ∷ next c ∷ []) (omega arith)
    (All-cons IsByte (next (c / 64)) (next c ∷ []) (omega arith) (one_byte (next c) (omega arith)))))))

text_bytes : (cs : List ℕ) → all_scalars cs ≡ true → All IsByte (encode_utf8_all cs)
text_bytes [] e = All-nil IsByte
text_bytes (c ∷ cs) e =
    All-append IsByte (encode c) (encode_utf8_all cs) (encoded_bytes c (below_top c (first_of (scalar c) (all_scalars cs) e))) (text_bytes cs (second_of (scalar c) (all_scalars cs) e))

-- what is UTF-8 is bytes
pub utf8_bytes : (bs : List ℕ) → IsUtf8 bs → All IsByte bs
utf8_bytes bs u = subst (All IsByte) u.1.1 (text_bytes u.0 u.1.0)

-- the bytes of a text are UTF-8
pub text_utf8 : (cs : List ℕ) → all_scalars cs ≡ true → IsUtf8 (encode_utf8_all cs)
text_utf8 cs e = (cs, (e, refl))
