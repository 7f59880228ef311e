-- Texts of characters from `!` to `~`: what HTTP makes of them, and which parts of a request are of them.
use Rattle.std.proofs.Common.{◌≡◌, ◌<◌, ◌≤◌, ◌^◌, ◌==◌, ℕ, zero, suc, List, [], ◌∷◌, ◌++◌, Bool, true, false, ◌&&◌, cond, All, IsAscii, IsTrue, reverse, decimal, encode_utf8_all, refl, sym, ap, ap₂, ◌∙◌, subst, arith, ⊎_elim}
use Rattle.std.specs.Char.{is_ascii_digit, is_ascii_graphic}
use Rattle.std.specs.List.{list_all}
use Rattle.std.proofs.lemmas.Bool.{cond_both, cases_eq, cases_lt}
use Rattle.std.proofs.lemmas.Bool.Decides.{nat_tests}
use Rattle.std.proofs.lemmas.List.Elements.{All-nil, All-cons, All-head, All-tail, All-append, All-weaker}
use Rattle.std.proofs.lemmas.List.Sums.{AllPass-from_list_all}
use Rattle.std.proofs.lemmas.Str.{encode_ascii}
use Rattle.std.proofs.lemmas.Str.Ascii.{IsAscii-from_all}
use Rattle.httparse.specs.Grammar.{AllPass, is_uri_byte, is_value_byte, is_ows, skip_ows, trim_ows}
use Rattle.httparse.proofs.TrimLemmas.{AllPass-reverse, trim_ows_space}
use Rattle.percent_encoding.specs.AsciiSet.{should_percent_encode}
use Rattle.percent_encoding.specs.Percent.{percent_encode}
use Rattle.percent_encoding.proofs.AsciiSetLemmas.{ascii_from_kept}
use Rattle.percent_encoding.proofs.PercentLemmas.{IsEscapeByte, All-percent_encode}
use Rattle.form_urlencoded.specs.Form.{extend_pairs, append_pair, serialize_pair, separator, is_nonempty, byte_serialize, IsUnchanged}
use Rattle.form_urlencoded.proofs.FormLemmas.{IsSerializedByte, All-byte_serialize}
use Rattle.http_frame.proofs.DecimalLemmas.{are_digits}
use Rattle.api_requests.specs.declared.target.TheConstants.{ESCAPED}
use Rattle.api_requests.specs.Requests.{segment_text, path_text, query_text}
use Rattle.api_requests.proofs.ByteLemmas.{first_of, second_of}
use Rattle.api_requests.proofs.TargetLemmas.{other}

abbrev pub IsVisible : ℕ → Type 0
IsVisible c = (33 ≤ c) × (c ≤ 126)

-- a text by a test of its characters
graphic : (c : ℕ) → is_ascii_graphic c ≡ true → IsVisible c
graphic c e = (grind (arith, nat_tests), grind (arith, nat_tests))

pub tested : (cs : List ℕ) → list_all is_ascii_graphic cs ≡ true → All IsVisible cs
tested cs e = All-weaker (λ c. is_ascii_graphic c ≡ true) IsVisible graphic cs (AllPass-from_list_all is_ascii_graphic cs e)

-- they stand in targets and in values, and none of them is white space

in_target : (c : ℕ) → IsVisible c → is_uri_byte c ≡ true
in_target c v = let least = v.0 in let most = v.1 in grind (arith, nat_tests)

in_value : (c : ℕ) → IsVisible c → is_value_byte c ≡ true
in_value c v = let least = v.0 in let most = v.1 in grind (arith, nat_tests)

pub visible_target : (cs : List ℕ) → All IsVisible cs → AllPass is_uri_byte cs
visible_target cs v = All-weaker IsVisible (λ c. is_uri_byte c ≡ true) in_target cs v

pub visible_value : (cs : List ℕ) → All IsVisible cs → AllPass is_value_byte cs
visible_value cs v = All-weaker IsVisible (λ c. is_value_byte c ≡ true) in_value cs v

no_blank : (c : ℕ) → is_uri_byte c ≡ true → is_ows c ≡ false
no_blank c e = grind (arith, nat_tests)

skips_none : (cs : List ℕ) → AllPass is_uri_byte cs → skip_ows cs ≡ cs
skips_none [] p = refl
skips_none (c ∷ cs) p = ap (λ t. cond t (skip_ows cs) (c ∷ cs)) (no_blank c (All-head (λ b. IsTrue (is_uri_byte b)) c cs p))

-- what stands behind a space is read without it
pub visible_trimmed : (cs : List ℕ) → All IsVisible cs → trim_ows (32 ∷ cs) ≡ cs
visible_trimmed cs v =
    let p = visible_target cs v in
    trim_ows_space cs (skips_none cs p) (skips_none (reverse cs) (AllPass-reverse is_uri_byte cs p))

-- they are their own bytes

pub visible_ascii : (cs : List ℕ) → All IsVisible cs → IsAscii cs
visible_ascii cs v = IsAscii-from_all cs (All-weaker IsVisible (λ c. c < 128) (λ c h. omega (arith, h.1)) cs v)

pub visible_bytes : (cs : List ℕ) → All IsVisible cs → encode_utf8_all cs ≡ cs
visible_bytes [] v = refl
visible_bytes (c ∷ cs) v =
    let small = (All-head IsVisible c cs v).1 in
    ap₂ (λ (a b : List ℕ). a ++ b) (encode_ascii c (omega (arith, small))) (visible_bytes cs (All-tail IsVisible c cs v))

-- an escaped segment

escaped_below : ℕ → Bool
escaped_below zero = true
escaped_below (suc n) = should_percent_encode ESCAPED n && escaped_below n

controls_are_escaped : escaped_below 33 ≡ true
unfolding escaped_below should_percent_encode
controls_are_escaped = refl

is_escaped : (most n : ℕ) → escaped_below most ≡ true → n < most → should_percent_encode ESCAPED n ≡ true
unfolding escaped_below
is_escaped zero n e h = absurd (omega arith)
is_escaped (suc most) n e h =
    ⊎_elim
    (λ (same : n ≡ most). ap (should_percent_encode ESCAPED) same ∙ first_of (should_percent_encode ESCAPED most) (escaped_below most) e)
    (λ (apart : n ≡ most → ⊥). is_escaped most n (second_of (should_percent_encode ESCAPED most) (escaped_below most) e) (omega (arith, apart)))
    (cases_eq n most)

delete_is_escaped : should_percent_encode ESCAPED 127 ≡ true
unfolding should_percent_encode
delete_is_escaped = refl

kept_visible : (b : ℕ) → should_percent_encode ESCAPED b ≡ false → IsVisible b
kept_visible b kept =
    let small = ascii_from_kept ESCAPED b kept in
    let last = other 127 b delete_is_escaped kept in
    ⊎_elim
    (λ (less : b < 33). absurd (other b b (is_escaped 33 b controls_are_escaped less) kept refl))
    (λ (least : 33 ≤ b). (least, omega (arith, small, last)))
    (cases_lt b 33)

escape_visible : (b : ℕ) → IsEscapeByte b → IsVisible b
escape_visible b h = (grind arith, grind arith)

segment_visible : (s : List ℕ) → All IsVisible (segment_text s)
segment_visible s = All-cons IsVisible 47 (percent_encode ESCAPED s) (omega arith, omega arith) (All-percent_encode IsVisible ESCAPED s kept_visible escape_visible)

pub path_visible : (ss : List (List ℕ)) → All IsVisible (path_text ss)
path_visible [] = All-nil IsVisible
path_visible (s ∷ ss) = All-append IsVisible (segment_text s) (path_text ss) (segment_visible s) (path_visible ss)

-- parameters as a form writes them

one_visible : (c : ℕ) → IsVisible c → All IsVisible (c ∷ [])
one_visible c v = All-cons IsVisible c [] v (All-nil IsVisible)

unchanged_visible : (b : ℕ) → IsUnchanged b → IsVisible b
unchanged_visible b h = (grind (arith, nat_tests), grind (arith, nat_tests))

serialized_visible : (b : ℕ) → IsSerializedByte b → IsVisible b
serialized_visible b h = ⊎_elim (unchanged_visible b) (λ sign. (grind arith, grind arith)) h.allowed

bytes_visible : (bs : List ℕ) → All IsVisible (byte_serialize bs)
bytes_visible bs = All-weaker IsSerializedByte IsVisible serialized_visible (byte_serialize bs) (All-byte_serialize bs)

pair_visible : (pair : List ℕ × List ℕ) → All IsVisible (serialize_pair pair)
pair_visible pair =
    All-append IsVisible (byte_serialize pair.0 ++ 61 ∷ []) (byte_serialize pair.1)
    (All-append IsVisible (byte_serialize pair.0) (61 ∷ []) (bytes_visible pair.0) (one_visible 61 (omega arith, omega arith))) (bytes_visible pair.1)

separator_visible : (form : List ℕ) → All IsVisible (separator form)
separator_visible form =
    cond_both (is_nonempty form) (38 ∷ []) [] (All IsVisible) (λ _. one_visible 38 (omega arith, omega arith)) (λ _. All-nil IsVisible)

form_visible : (form : List ℕ) (pairs : List (List ℕ × List ℕ)) → All IsVisible form → All IsVisible (extend_pairs form pairs)
form_visible form [] v = v
form_visible form (p ∷ ps) v =
    form_visible (append_pair form p.0 p.1) ps
    (All-append IsVisible (form ++ separator form) (serialize_pair (p.0, p.1)) (All-append IsVisible form (separator form) v (separator_visible form)) (pair_visible (p.0, p.1)))

pub query_visible : (pairs : List (List ℕ × List ℕ)) → All IsVisible (query_text pairs)
query_visible [] = All-nil IsVisible
query_visible (p ∷ ps) =
    All-append IsVisible (63 ∷ []) (extend_pairs [] (p ∷ ps)) (one_visible 63 (omega arith, omega arith)) (form_visible [] (p ∷ ps) (All-nil IsVisible))

-- a number

digit_visible : (c : ℕ) → is_ascii_digit c ≡ true → IsVisible c
digit_visible c e = (grind (arith, nat_tests), grind (arith, nat_tests))

pub number_visible : (n : ℕ) → n < 2 ^ 64 → All IsVisible (decimal n)
number_visible n h = All-weaker (λ c. is_ascii_digit c ≡ true) IsVisible digit_visible (decimal n) (are_digits n h)
