-- What the bytes of a text tell of its characters.
use Rattle.std.proofs.Common.{◌≡◌, ℕ, suc, ◌+◌, ◌<◌, ◌≤◌, List, [], ◌∷◌, ◌++◌, Bool, true, false, ◌==◌, ◌&&◌, ◌||◌, refl, ap, ◌∙◌, sym, subst, length, append-nil, arith, encode_utf8, encode_utf8_all, get_or, drop, inl, inr, codes, ◌⊎◌, Some}
use Rattle.std.specs.Prelude.{slice_get}
use Rattle.std.specs.List.{list_all}
use Rattle.std.proofs.lemmas.Option.{same_Some}
use Rattle.std.specs.Str.{bytes_eq, all_scalars, chars, IsUtf8}
use Rattle.std.proofs.lemmas.Str.{encode_ascii, length-encode, len_utf8_bounds, inside_one, encodes_same, chars_from_encodes, encodes-chars, scalars-chars}
use Rattle.std.proofs.lemmas.Bool.{cases_lt}
use Rattle.std.proofs.lemmas.Bool.Decides.{nat_tests, same_from_decides, Decides-like}
use Rattle.std.proofs.lemmas.Slice.Eq.{bytes_eq-Decides}
use Rattle.std.proofs.lemmas.List.{get_or_default, at_drop_more, at_drop_all}
use Rattle.rdf_term.specs.Classes.{is_letter, is_digit, is_in, is_one_of, is_iri_char, pn_chars, pn_chars_u}
use Rattle.rdf_term.specs.Validity.{has_scheme, has_scheme_rest, is_label, is_label_rest, is_tag, is_tag_from, xsd_string}
use Rattle.rdf_term.specs.TagLaws.{is_tag-automaton}

-- a text of UTF-8 is of scalar values
pub scalars_of : (cs : List ℕ) → IsUtf8 (encode_utf8_all cs) → all_scalars cs ≡ true
scalars_of cs u = subst (λ v. all_scalars v ≡ true) (sym (chars_from_encodes cs (encode_utf8_all cs) u refl)) (scalars-chars (encode_utf8_all cs) u)

-- a text's characters are those that its bytes spell
pub chars_of : (cs bs : List ℕ) → IsUtf8 bs → bs ≡ encode_utf8_all cs → chars bs ≡ cs
chars_of cs bs u e = sym (chars_from_encodes cs bs u (sym e))

xsd_bytes : encode_utf8_all xsd_string ≡ xsd_string
unfolding lib.Utf8.encode
xsd_bytes = refl

-- a datatype is compared by its bytes
pub xsd_same : (d : List ℕ) → bytes_eq (encode_utf8_all d) xsd_string ≡ bytes_eq d xsd_string
xsd_same d = same_from_decides _ _
    (Decides-like _ (λ e. encodes_same d xsd_string (e ∙ sym xsd_bytes)) (λ e. ap encode_utf8_all e ∙ xsd_bytes) (bytes_eq-Decides (encode_utf8_all d) xsd_string))
    (bytes_eq-Decides d xsd_string)

-- a character above ASCII has bytes above ASCII alone

abbrev AllHigh : List ℕ → Type 0
AllHigh xs = (k d : ℕ) → k < length xs → 128 ≤ get_or xs k d

some_bytes : (c : ℕ) → 0 < length (encode_utf8 c)
some_bytes c = let e = length-encode c in let b = len_utf8_bounds c in omega arith

bytes_high : (c : ℕ) → 128 ≤ c → AllHigh (encode_utf8 c)
bytes_high c h k d l =
    elim (cases_lt (get_or (encode_utf8 c) k d) 128) [
      | inl low ↦ (let same = get_or_default (encode_utf8 c) k 0 d l in
          let low0 : get_or (encode_utf8 c) k 0 < 128 = omega (arith, same) in
          let told = inside_one c [] (encode_utf8 c) k (sym (append-nil _)) l low0 in
          omega arith)
      | inr high ↦ high
    ]

-- two tests of texts agree on bytes and characters where a character above ASCII decides both, or neither
not_both : (a r : Bool) → a ≡ false → (a && r) ≡ false
not_both true r e = cc
not_both false r e = refl

none : (a b r : Bool) → a ≡ false → b ≡ false → (a || (b && r)) ≡ false
none true b r e h = cc
none false true r e h = cc
none false false r e h = refl

neither : (a t b g f : Bool) → a ≡ false → b ≡ false → ((a && t) || (b && g && f)) ≡ false
neither true t b g f e h = cc
neither false t true g f e h = cc
neither false t false g f e h = refl

-- a scheme is ASCII

no_scheme : (b : ℕ) → 128 ≤ b → (is_letter b || is_digit b || is_one_of (codes "+.-") b) ≡ false
no_scheme b h = grind (arith, nat_tests)

no_letter : (b : ℕ) → 128 ≤ b → is_letter b ≡ false
no_letter b h = grind (arith, nat_tests)

no_colon : (b : ℕ) → 128 ≤ b → (b == 58) ≡ false
no_colon b h = grind (arith, nat_tests)

high_rest : (xs rest : List ℕ) → 0 < length xs → AllHigh xs → has_scheme_rest (xs ++ rest) ≡ false
high_rest [] rest l h = absurd (omega arith)
high_rest (b ∷ bs) rest l h =
    let high : 128 ≤ b = h 0 0 l in
    none (b == 58) (is_letter b || is_digit b || is_one_of (codes "+.-") b) (has_scheme_rest (bs ++ rest)) (no_colon b high) (no_scheme b high)

high_start : (xs rest : List ℕ) → 0 < length xs → AllHigh xs → has_scheme (xs ++ rest) ≡ false
high_start [] rest l h = absurd (omega arith)
high_start (b ∷ bs) rest l h = not_both (is_letter b) (has_scheme_rest (bs ++ rest)) (no_letter b (h 0 0 l))

scheme_rest_bytes : (cs : List ℕ) → has_scheme_rest (encode_utf8_all cs) ≡ has_scheme_rest cs
scheme_rest_bytes [] = refl
scheme_rest_bytes (c ∷ cs) =
    elim (cases_lt c 128) [
      | inl l ↦ ap (λ v. has_scheme_rest (v ++ encode_utf8_all cs)) (encode_ascii c l)
          ∙ ap (λ r. (c == 58) || ((is_letter c || is_digit c || is_one_of (codes "+.-") c) && r)) (scheme_rest_bytes cs)
      | inr h ↦ high_rest (encode_utf8 c) (encode_utf8_all cs) (some_bytes c) (bytes_high c h)
          ∙ sym (none (c == 58) (is_letter c || is_digit c || is_one_of (codes "+.-") c) (has_scheme_rest cs) (no_colon c h) (no_scheme c h))
    ]

pub scheme_bytes : (cs : List ℕ) → has_scheme (encode_utf8_all cs) ≡ has_scheme cs
scheme_bytes [] = refl
scheme_bytes (c ∷ cs) =
    elim (cases_lt c 128) [
      | inl l ↦ ap (λ v. has_scheme (v ++ encode_utf8_all cs)) (encode_ascii c l) ∙ ap (λ r. is_letter c && r) (scheme_rest_bytes cs)
      | inr h ↦ high_start (encode_utf8 c) (encode_utf8_all cs) (some_bytes c) (bytes_high c h)
          ∙ sym (not_both (is_letter c) (has_scheme_rest cs) (no_letter c h))
    ]

-- an IRI may have each character above ASCII

is_high_iri : (b : ℕ) → 128 ≤ b → is_iri_char b ≡ true
is_high_iri b h = grind (arith, nat_tests)

high_iri : (xs rest : List ℕ) → AllHigh xs → list_all is_iri_char (xs ++ rest) ≡ list_all is_iri_char rest
high_iri [] rest h = refl
high_iri (b ∷ bs) rest h =
    let first : 0 < length (b ∷ bs) = omega arith in
    ap (λ k. k && list_all is_iri_char (bs ++ rest)) (is_high_iri b (h 0 0 first)) ∙ high_iri bs rest (λ k d l. h (suc k) d (omega arith))

pub iri_bytes : (cs : List ℕ) → list_all is_iri_char (encode_utf8_all cs) ≡ list_all is_iri_char cs
iri_bytes [] = refl
iri_bytes (c ∷ cs) =
    elim (cases_lt c 128) [
      | inl l ↦ ap (λ v. list_all is_iri_char (v ++ encode_utf8_all cs)) (encode_ascii c l) ∙ ap (λ r. is_iri_char c && r) (iri_bytes cs)
      | inr h ↦ high_iri (encode_utf8 c) (encode_utf8_all cs) (bytes_high c h) ∙ iri_bytes cs
          ∙ ap (λ k. k && list_all is_iri_char cs) (sym (is_high_iri c h))
    ]

-- a language tag is ASCII

abbrev is_word : ℕ → Bool
is_word = λ d. is_letter d || is_digit d

no_hyphen : (b : ℕ) → 128 ≤ b → (b == 45) ≡ false
no_hyphen b h = grind (arith, nat_tests)

no_word : (b : ℕ) → 128 ≤ b → is_word b ≡ false
no_word b h = grind (arith, nat_tests)

high_tag : (begun : Bool) (class : ℕ → Bool) (xs rest : List ℕ) → ((b : ℕ) → 128 ≤ b → class b ≡ false) → 0 < length xs → AllHigh xs → is_tag_from begun class (xs ++ rest) ≡ false
high_tag begun class [] rest out l h = absurd (omega arith)
high_tag begun class (b ∷ bs) rest out l h =
    let high : 128 ≤ b = h 0 0 l in
    neither (class b) (is_tag_from true class (bs ++ rest)) (b == 45) begun (is_tag_from false is_word (bs ++ rest)) (out b high) (no_hyphen b high)

tag_from_bytes : (cs : List ℕ) (begun : Bool) (class : ℕ → Bool) → ((b : ℕ) → 128 ≤ b → class b ≡ false) → is_tag_from begun class (encode_utf8_all cs) ≡ is_tag_from begun class cs
tag_from_bytes [] begun class out = refl
tag_from_bytes (c ∷ cs) begun class out =
    elim (cases_lt c 128) [
      | inl l ↦ ap (λ v. is_tag_from begun class (v ++ encode_utf8_all cs)) (encode_ascii c l)
          ∙ (λ i. (class c && tag_from_bytes cs true class out i) || (c == 45 && begun && tag_from_bytes cs false is_word no_word i))
      | inr h ↦ high_tag begun class (encode_utf8 c) (encode_utf8_all cs) out (some_bytes c) (bytes_high c h)
          ∙ sym (neither (class c) (is_tag_from true class cs) (c == 45) begun (is_tag_from false is_word cs) (out c h) (no_hyphen c h))
    ]

pub tag_bytes : (cs : List ℕ) → is_tag (encode_utf8_all cs) ≡ is_tag cs
tag_bytes cs = is_tag-automaton (encode_utf8_all cs) ∙ tag_from_bytes cs false is_letter no_letter ∙ sym (is_tag-automaton cs)

-- the classes of a part, which may have digits after the first
abbrev pub part_of : Bool → ℕ → Bool
part_of false = is_letter
part_of true = λ d. is_letter d || is_digit d

-- what may follow in a label, behind a character that may end it or behind a dot
abbrev pub behind : Bool → List ℕ → List ℕ
behind true cs = cs
behind false cs = 46 ∷ cs

label_rest_in : (c : ℕ) (cs : List ℕ) → pn_chars c ≡ true → is_label_rest (c ∷ cs) ≡ is_label_rest cs
label_rest_in c [] h = h
label_rest_in c (d ∷ ds) h = ap (λ k. (k || is_one_of (46 ∷ []) c) && is_label_rest (d ∷ ds)) h

label_rest_dot : (d : ℕ) (cs : List ℕ) → is_label_rest (46 ∷ d ∷ cs) ≡ is_label_rest (d ∷ cs)
label_rest_dot d cs = refl

behind_one : (ends : Bool) (c : ℕ) (cs : List ℕ) → is_label_rest (behind ends (c ∷ cs)) ≡ is_label_rest (c ∷ cs)
behind_one true c cs = refl
behind_one false c cs = refl

-- one character more
label_more : (ends : Bool) (c : ℕ) (cs : List ℕ) (k : Bool) → k ≡ pn_chars c → (k ≡ false → c ≡ 46) → is_label_rest (behind ends (c ∷ cs)) ≡ is_label_rest (behind k cs)
label_more ends c cs true e dot = behind_one ends c cs ∙ label_rest_in c cs (sym e)
label_more ends c cs false e dot = behind_one ends c cs ∙ ap (λ d. is_label_rest (d ∷ cs)) (dot refl)

not_rest : (c : ℕ) (cs : List ℕ) → pn_chars c ≡ false → is_one_of (46 ∷ []) c ≡ false → is_label_rest (c ∷ cs) ≡ false
not_rest c [] p d = p
not_rest c (e ∷ es) p d = λ i. (p i || d i) && is_label_rest (e ∷ es)

no_dot : (c : ℕ) → (c ≡ 46 → ⊥) → is_one_of (46 ∷ []) c ≡ false
no_dot c h = grind (arith, nat_tests)

-- a text that has got to a place: what is left there, and the character that stands there
pub label_on : (cs : List ℕ) (n c : ℕ) (ends k : Bool) → (n < length cs) × (c ≡ get_or cs n c) → k ≡ pn_chars c → (k ≡ false → c ≡ 46)
    → is_label_rest (behind ends (drop n cs)) ≡ is_label_rest (behind k (drop (n + 1) cs))
label_on cs n c ends k at e dot =
    at_drop_more (λ l. is_label_rest (behind ends l)) cs n c at.0
    ∙ ap (λ d. is_label_rest (behind ends (d ∷ drop (n + 1) cs))) (sym at.1) ∙ label_more ends c (drop (n + 1) cs) k e dot

pub label_refused : (cs : List ℕ) (n c : ℕ) (ends : Bool) → (n < length cs) × (c ≡ get_or cs n c) → pn_chars c ≡ false → (c ≡ 46 → ⊥)
    → is_label_rest (behind ends (drop n cs)) ≡ false
label_refused cs n c ends at e dot =
    at_drop_more (λ l. is_label_rest (behind ends l)) cs n c at.0
    ∙ ap (λ d. is_label_rest (behind ends (d ∷ drop (n + 1) cs))) (sym at.1) ∙ behind_one ends c (drop (n + 1) cs) ∙ not_rest c (drop (n + 1) cs) e (no_dot c dot)

pub label_end : (cs : List ℕ) (n : ℕ) (ends : Bool) → length cs ≤ n → is_label_rest (behind ends (drop n cs)) ≡ ends
label_end cs n ends l = at_drop_all (λ l. is_label_rest (behind ends l)) cs n l ∙ at ends
  where
    at : (b : Bool) → is_label_rest (behind b []) ≡ b
    at true = refl
    at false = refl

-- a label by its first character

starts : (a b : Bool) (c : ℕ) → (a || b) ≡ true → (((a || b) || is_one_of (codes "-") c) || is_in ((0xB7, 0xB7) ∷ (0x300, 0x36F) ∷ (0x203F, 0x2040) ∷ []) c) ≡ true
starts true b c h = refl
starts false true c h = refl
starts false false c h = cc

pub label_by_first : (cs : List ℕ) (c : ℕ) → Some c ≡ slice_get cs 0 → (pn_chars_u c || is_digit c) ≡ true → is_label cs ≡ is_label_rest cs
label_by_first [] c e h = cc
label_by_first (d ∷ ds) c e h =
    let first : (pn_chars_u d || is_digit d) ≡ true = subst (λ k. (pn_chars_u k || is_digit k) ≡ true) (same_Some c d e) h in
    ap (λ k. k && is_label_rest ds) first ∙ sym (label_rest_in d ds (starts (pn_chars_u d) (is_digit d) d first))

pub label_not : (cs : List ℕ) (c : ℕ) → Some c ≡ slice_get cs 0 → (pn_chars_u c || is_digit c) ≡ false → is_label cs ≡ false
label_not [] c e h = cc
label_not (d ∷ ds) c e h =
    let first : (pn_chars_u d || is_digit d) ≡ false = subst (λ k. (pn_chars_u k || is_digit k) ≡ false) (same_Some c d e) h in
    ap (λ k. k && is_label_rest ds) first

-- a character that may not end a label is a dot
pub dot_else : (k : Bool) (c : ℕ) → (k ≡ false × c ≡ 46) ⊎ (k ≡ true) → k ≡ false → c ≡ 46
dot_else k c h f =
    elim h [
      | inl p ↦ p.1
      | inr q ↦ (let z : true ≡ false = sym q ∙ f in cc)
    ]

-- what the bytes of a text tell where its characters tell it
pub by_bytes : {A : Type 0} (f : List ℕ → A) (bs : List ℕ) → IsUtf8 bs → ((cs : List ℕ) → f (encode_utf8_all cs) ≡ f cs) → f bs ≡ f (chars bs)
by_bytes f bs u same = ap f (sym (encodes-chars bs u)) ∙ same (chars bs)
