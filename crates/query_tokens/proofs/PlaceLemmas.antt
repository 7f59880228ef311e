-- Counts of bytes.
use Rattle.std.proofs.Common.{◌≡◌, ◌<◌, ◌≤◌, ◌+◌, ◌∙◌, sym, ap, ℕ, arith, List, [], ◌∷◌, ◌++◌, take, drop, length, length-append, encode_utf8_all}
use Rattle.std.specs.Str.{chars, IsUtf8}
use lib.Utf8.{encode}
use Rattle.std.specs.Char.{len_utf8}
use Rattle.std.proofs.lemmas.List.{take-append-drop}
use Rattle.std.proofs.lemmas.Str.{length-encode, length-le-encodes, encodes-chars}
use Rattle.query_tokens.specs.Tokens.{byte_count}

first_bytes : (c : ℕ) (cs : List ℕ) → byte_count (c ∷ cs) ≡ len_utf8 c + byte_count cs
first_bytes c cs = length-append (encode c) (encode_utf8_all cs) ∙ ap (λ n. n + byte_count cs) (length-encode c)

pub count-append : (a b : List ℕ) → byte_count (a ++ b) ≡ byte_count a + byte_count b
count-append [] b = omega arith
count-append (x ∷ a) b = let i = count-append a b in omega (arith, first_bytes x (a ++ b), first_bytes x a)

pub in_two : (n : ℕ) (text : List ℕ) → byte_count (take n text) + byte_count (drop n text) ≡ byte_count text
in_two n text = sym (count-append (take n text) (drop n text)) ∙ ap byte_count (take-append-drop n text)

-- a text has the bytes of its characters
pub text_bytes : (text : List ℕ) → IsUtf8 text → length text ≡ byte_count (chars text)
text_bytes text u = sym (ap length (encodes-chars text u))

-- and no more characters than bytes
pub text_chars : (text : List ℕ) → IsUtf8 text → length (chars text) ≤ length text
text_chars text u = let e = text_bytes text u in let l = length-le-encodes (chars text) in omega arith
