use Rattle.std.proofs.Common.{◌≡◌, ℕ, suc, zero, ◌<◌, ◌≤◌, List, [], ◌∷◌, ◌++◌, Bool, true, false, ◌==◌, refl, ap, ◌∙◌, sym, get_or, length, append_assoc, append-nil, encode_utf8, encode_utf8_all, codes, arith, inl, inr, if◌then◌else◌}
use Rattle.std.specs.List.{flat_map, AllByRecursion}
use Rattle.std.specs.Str.{IsAscii}
use Rattle.std.proofs.lemmas.List.Concat.{flat_map-append}
use Rattle.std.proofs.lemmas.List.Elements.{recursion_from_All}
use Rattle.std.proofs.lemmas.Bool.{cases_lt}
use Rattle.std.proofs.lemmas.List.{get_or_default}
use Rattle.std.proofs.lemmas.Bool.Decides.{nat_tests}
use Rattle.std.proofs.lemmas.Str.{encodes-append, encodes-IsAscii, encode_ascii, inside_one}
use Rattle.rdf_term.specs.Canonical.{escaped, quoted}

escaped_high : (c : ℕ) → 128 ≤ c → escaped c ≡ c ∷ []
escaped_high c h = grind (arith, nat_tests)

high_stays : (xs : List ℕ) → AllByRecursion (λ x. 128 ≤ x) xs → flat_map escaped xs ≡ xs
high_stays [] h = refl
high_stays (x ∷ xs) h = ap (λ v. v ++ flat_map escaped xs) (escaped_high x h.0) ∙ ap (λ v. x ∷ v) (high_stays xs h.1)

pair_ascii : (d : ℕ) → d < 128 → IsAscii (92 ∷ d ∷ [])
pair_ascii d h zero = omega arith
pair_ascii d h (suc zero) = h
pair_ascii d h (suc (suc n)) = omega arith

pub one_ascii : (d : ℕ) → d < 128 → IsAscii (d ∷ [])
one_ascii d h zero = h
one_ascii d h (suc n) = omega arith

escaped_ascii : (c : ℕ) → c < 128 → (a b d e : Bool) → IsAscii (if a then codes "\\\"" else if b then codes "\\\\" else if d then codes "\\n" else if e then codes "\\r" else c ∷ [])
escaped_ascii c h true b d e = pair_ascii 34 (omega arith)
escaped_ascii c h false true d e = pair_ascii 92 (omega arith)
escaped_ascii c h false false true e = pair_ascii 110 (omega arith)
escaped_ascii c h false false false true = pair_ascii 114 (omega arith)
escaped_ascii c h false false false false = one_ascii c h

pub bytes_high : (c : ℕ) → 128 ≤ c → (k d : ℕ) → k < length (encode_utf8 c) → 128 ≤ get_or (encode_utf8 c) k d
bytes_high c h k d l =
    elim (cases_lt (get_or (encode_utf8 c) k d) 128) [
      | inl low ↦ (let same = get_or_default (encode_utf8 c) k 0 d l in
          let low0 : get_or (encode_utf8 c) k 0 < 128 = omega (arith, same) in
          let told = inside_one c [] (encode_utf8 c) k (sym (append-nil _)) l low0 in
          omega arith)
      | inr high ↦ high
    ]

escaped_one : (c : ℕ) → flat_map escaped (encode_utf8 c) ≡ encode_utf8_all (escaped c)
escaped_one c =
    elim (cases_lt c 128) [
      | inl l ↦ ap (flat_map escaped) (encode_ascii c l) ∙ append-nil (escaped c)
          ∙ sym (encodes-IsAscii (escaped c) (escaped_ascii c l (c == 34) (c == 92) (c == 10) (c == 13)))
      | inr h ↦ high_stays (encode_utf8 c) (recursion_from_All (λ x. 128 ≤ x) (encode_utf8 c) (bytes_high c h))
          ∙ sym (append-nil (encode_utf8 c)) ∙ ap encode_utf8_all (sym (escaped_high c h))
    ]

-- escaping the bytes of a text is escaping its characters
pub escaped_all : (cs : List ℕ) → flat_map escaped (encode_utf8_all cs) ≡ encode_utf8_all (flat_map escaped cs)
escaped_all [] = refl
escaped_all (c ∷ cs) =
    flat_map-append escaped (encode_utf8 c) (encode_utf8_all cs)
    ∙ ap (λ v. v ++ flat_map escaped (encode_utf8_all cs)) (escaped_one c)
    ∙ ap (λ v. encode_utf8_all (escaped c) ++ v) (escaped_all cs)
    ∙ sym (encodes-append (escaped c) (flat_map escaped cs))

-- ASCII characters around a text
around : (a b t : List ℕ) → IsAscii a → IsAscii b → encode_utf8_all (a ++ t ++ b) ≡ a ++ encode_utf8_all t ++ b
around a b t ha hb =
    encodes-append (a ++ t) b ∙ ap (λ v. encode_utf8_all (a ++ t) ++ v) (encodes-IsAscii b hb)
    ∙ ap (λ v. v ++ b) (encodes-append a t ∙ ap (λ v. v ++ encode_utf8_all t) (encodes-IsAscii a ha))

nil_ascii : IsAscii []
nil_ascii n = omega arith

pub two_ascii : (c d : ℕ) → c < 128 → d < 128 → IsAscii (c ∷ d ∷ [])
two_ascii c d h k zero = h
two_ascii c d h k (suc zero) = k
two_ascii c d h k (suc (suc n)) = omega arith

pub three_ascii : (c d e : ℕ) → c < 128 → d < 128 → e < 128 → IsAscii (c ∷ d ∷ e ∷ [])
three_ascii c d e h k l zero = h
three_ascii c d e h k l (suc zero) = k
three_ascii c d e h k l (suc (suc zero)) = l
three_ascii c d e h k l (suc (suc (suc n))) = omega arith

pub quoted_bytes : (t : List ℕ) → encode_utf8_all (quoted t) ≡ codes "\"" ++ flat_map escaped (encode_utf8_all t) ++ codes "\""
quoted_bytes t =
    around (codes "\"") (codes "\"") (flat_map escaped t) (one_ascii 34 (omega arith)) (one_ascii 34 (omega arith))
    ∙ ap (λ v. codes "\"" ++ v ++ codes "\"") (sym (escaped_all t))

pub iri_bytes : (t : List ℕ) → encode_utf8_all (codes "<" ++ t ++ codes ">") ≡ codes "<" ++ encode_utf8_all t ++ codes ">"
iri_bytes t = around (codes "<") (codes ">") t (one_ascii 60 (omega arith)) (one_ascii 62 (omega arith))

pub tag_bytes : (q t : List ℕ) → encode_utf8_all (q ++ codes "@" ++ t) ≡ encode_utf8_all q ++ (codes "@" ++ encode_utf8_all t ++ [])
tag_bytes q t =
    encodes-append (q ++ codes "@") t ∙ ap (λ v. v ++ encode_utf8_all t) (encodes-append q (codes "@") ∙ ap (λ v. encode_utf8_all q ++ v) (encodes-IsAscii (codes "@") (one_ascii 64 (omega arith))))
    ∙ append_assoc (encode_utf8_all q) (codes "@") (encode_utf8_all t) ∙ ap (λ v. encode_utf8_all q ++ v) (sym (append-nil _))

pub type_bytes : (q t : List ℕ) → encode_utf8_all (q ++ codes "^^<" ++ t ++ codes ">") ≡ encode_utf8_all q ++ (codes "^^<" ++ encode_utf8_all t ++ codes ">")
type_bytes q t =
    ap encode_utf8_all (regroup q (codes "^^<") t (codes ">")) ∙ encodes-append q (codes "^^<" ++ t ++ codes ">")
    ∙ ap (λ v. encode_utf8_all q ++ v) (around (codes "^^<") (codes ">") t (three_ascii 94 94 60 (omega arith) (omega arith) (omega arith)) (one_ascii 62 (omega arith)))
  where
    regroup : (a b c d : List ℕ) → a ++ b ++ c ++ d ≡ a ++ (b ++ c ++ d)
    regroup a b c d = simp append_assoc
