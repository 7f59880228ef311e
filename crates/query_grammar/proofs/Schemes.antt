-- A scheme is ASCII, so that an IRI's bytes tell it as its characters do.
use Rattle.std.proofs.Common.{◌≡◌, ℕ, ◌<◌, ◌≤◌, List, [], ◌∷◌, ◌++◌, Bool, true, false, ◌==◌, ◌&&◌, ◌||◌, refl, ap, ◌∙◌, sym, length, append-nil, arith, encode_utf8, encode_utf8_all, get_or, inl, inr, codes}
use Rattle.std.proofs.lemmas.Str.{encode_ascii, length-encode, len_utf8_bounds, inside_one}
use Rattle.std.proofs.lemmas.Bool.{cases_lt}
use Rattle.std.proofs.lemmas.Bool.Decides.{nat_tests}
use Rattle.std.proofs.lemmas.List.{get_or_default}
use Rattle.rdf_term.specs.Classes.{is_letter, is_digit, is_one_of}
use Rattle.rdf_term.specs.Validity.{has_scheme, has_scheme_rest}

no_scheme : (b : ℕ) → 128 ≤ b → (is_letter b || is_digit b || is_one_of (codes "+.-") b) ≡ false
no_scheme b h = grind (arith, nat_tests)

no_letter : (b : ℕ) → 128 ≤ b → is_letter b ≡ false
no_letter b h = grind (arith, nat_tests)

no_colon : (b : ℕ) → 128 ≤ b → (b == 58) ≡ false
no_colon b h = grind (arith, nat_tests)

none : (a b r : Bool) → a ≡ false → b ≡ false → (a || (b && r)) ≡ false
none true b r e h = cc
none false true r e h = cc
none false false r e h = refl

not_both : (a r : Bool) → a ≡ false → (a && r) ≡ false
not_both true r e = cc
not_both false r e = refl

high_rest : (xs rest : List ℕ) → 0 < length xs → ((k d : ℕ) → k < length xs → 128 ≤ get_or xs k d) → has_scheme_rest (xs ++ rest) ≡ false
high_rest [] rest l h = absurd (omega arith)
high_rest (b ∷ bs) rest l h =
    let high : 128 ≤ b = h 0 0 l in
    none (b == 58) (is_letter b || is_digit b || is_one_of (codes "+.-") b) (has_scheme_rest (bs ++ rest)) (no_colon b high) (no_scheme b high)

high_start : (xs rest : List ℕ) → 0 < length xs → ((k d : ℕ) → k < length xs → 128 ≤ get_or xs k d) → has_scheme (xs ++ rest) ≡ false
high_start [] rest l h = absurd (omega arith)
high_start (b ∷ bs) rest l h = not_both (is_letter b) (has_scheme_rest (bs ++ rest)) (no_letter b (h 0 0 l))

some_bytes : (c : ℕ) → 0 < length (encode_utf8 c)
some_bytes c = let e = length-encode c in let b = len_utf8_bounds c in omega arith

bytes_high : (c : ℕ) → 128 ≤ c → (k d : ℕ) → k < length (encode_utf8 c) → 128 ≤ get_or (encode_utf8 c) k d
bytes_high c h k d l =
    elim (cases_lt (get_or (encode_utf8 c) k d) 128) [
      | inl low ↦ (let same = get_or_default (encode_utf8 c) k 0 d l in
          let low0 : get_or (encode_utf8 c) k 0 < 128 = omega (arith, same) in
          let told = inside_one c [] (encode_utf8 c) k (sym (append-nil _)) l low0 in
          omega arith)
      | inr high ↦ high
    ]

scheme_rest_bytes : (cs : List ℕ) → has_scheme_rest (encode_utf8_all cs) ≡ has_scheme_rest cs
scheme_rest_bytes [] = refl
scheme_rest_bytes (c ∷ cs) =
    elim (cases_lt c 128) [
      | inl l ↦ ap (λ v. has_scheme_rest (v ++ encode_utf8_all cs)) (encode_ascii c l)
          ∙ ap (λ r. (c == 58) || ((is_letter c || is_digit c || is_one_of (codes "+.-") c) && r)) (scheme_rest_bytes cs)
      | inr h ↦ high_rest (encode_utf8 c) (encode_utf8_all cs) (some_bytes c) (bytes_high c h)
          ∙ sym (none (c == 58) (is_letter c || is_digit c || is_one_of (codes "+.-") c) (has_scheme_rest cs) (no_colon c h) (no_scheme c h))
    ]

pub scheme_bytes : (cs : List ℕ) → has_scheme (encode_utf8_all cs) ≡ has_scheme cs
scheme_bytes [] = refl
scheme_bytes (c ∷ cs) =
    elim (cases_lt c 128) [
      | inl l ↦ ap (λ v. has_scheme (v ++ encode_utf8_all cs)) (encode_ascii c l) ∙ ap (λ r. is_letter c && r) (scheme_rest_bytes cs)
      | inr h ↦ high_start (encode_utf8 c) (encode_utf8_all cs) (some_bytes c) (bytes_high c h)
          ∙ sym (not_both (is_letter c) (has_scheme_rest cs) (no_letter c h))
    ]
