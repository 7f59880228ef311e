-- Texts of ASCII characters, and IDs.
use Rattle.std.proofs.Common.{◌≡◌, ◌≤◌, ◌<◌, ℕ, suc, List, [], ◌∷◌, Bool, true, false, ◌&&◌, refl, ap, ◌∙◌, sym, arith, length, nat_le, ◌^◌, decimal, encode_utf8_all}
use Rattle.std.specs.List.{list_all}
use Rattle.std.specs.Char.{is_ascii, is_ascii_alphanumeric}
use Rattle.std.specs.Str.{IsAscii}
use Rattle.std.proofs.lemmas.Str.{encodes_same, encodes-IsAscii}
use Rattle.std.proofs.lemmas.Str.Ascii.{IsAscii-nil, IsAscii-cons}
use Rattle.std.proofs.lemmas.Fmt.{length-decimal-le}
use Rattle.std.proofs.lemmas.Bool.Decides.{nat_tests}
use Rattle.api_replies.specs.Ids.{is_id, is_id_char}

both : (a b : Bool) → (a && b) ≡ true → (a ≡ true) × (b ≡ true)
both true b e = (refl, e)
both false b e = cc

ascii_below : (c : ℕ) → is_ascii c ≡ true → c < 128
ascii_below c h = grind (arith, nat_tests, h)

ascii_all : (bs : List ℕ) → list_all is_ascii bs ≡ true → IsAscii bs
ascii_all [] h = IsAscii-nil
ascii_all (b ∷ bs) h = let w = both (is_ascii b) (list_all is_ascii bs) h in IsAscii-cons b bs (ascii_below b w.0) (ascii_all bs w.1)

-- a text whose bytes are these of ASCII
pub ascii_text : (it bs : List ℕ) → list_all is_ascii bs ≡ true → encode_utf8_all it ≡ bs → it ≡ bs
ascii_text it bs h e = encodes_same it bs (e ∙ sym (encodes-IsAscii bs (ascii_all bs h)))

-- the characters of an ID are bytes

letter_below : (c : ℕ) → is_ascii_alphanumeric c ≡ true → c < 128
letter_below c h = grind (arith, nat_tests, h)

id_char_below : (c : ℕ) → is_id_char c ≡ true → c < 128
id_char_below c h = grind (arith, nat_tests, h)

id_chars_ascii : (cs : List ℕ) → list_all is_id_char cs ≡ true → IsAscii cs
id_chars_ascii [] h = IsAscii-nil
id_chars_ascii (c ∷ cs) h =
    let w = both (is_id_char c) (list_all is_id_char cs) h in IsAscii-cons c cs (id_char_below c w.0) (id_chars_ascii cs w.1)

at_most : (n : ℕ) → nat_le n 63 ≡ true → n ≤ 63
at_most n h = grind (arith, nat_tests, h)

-- an ID has at most 64 bytes
pub id_short : (t : List ℕ) → is_id t ≡ true → length (encode_utf8_all t) ≤ 64
id_short [] h = cc
id_short (c ∷ cs) h =
    let w = both (is_ascii_alphanumeric c && nat_le (length cs) 63) (list_all is_id_char cs) h in
    let v = both (is_ascii_alphanumeric c) (nat_le (length cs) 63) w.0 in
    let few : length cs ≤ 63 = at_most (length cs) v.1 in
    let same : length (encode_utf8_all (c ∷ cs)) ≡ suc (length cs) =
    ap length (encodes-IsAscii (c ∷ cs) (IsAscii-cons c cs (letter_below c v.0) (id_chars_ascii cs w.1))) in
    omega arith

-- a number of 64 bits has at most 20 digits
pub decimal_short : (n : ℕ) → n < 2 ^ 64 → length (decimal n) ≤ 20
decimal_short n h = length-decimal-le 20 n (omega arith) (omega arith) h
