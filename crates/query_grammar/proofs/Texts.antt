-- Texts and their bytes.
use Rattle.std.proofs.Common.{◌≡◌, ℕ, ◌<◌, List, [], ◌∷◌, ◌++◌, Bool, true, false, ◌&&◌, refl, ◌∙◌, sym, arith, encode_utf8_all}
use Rattle.std.specs.List.{list_all}
use Rattle.std.specs.Char.{is_ascii}
use Rattle.std.specs.Str.{IsAscii}
use Rattle.std.proofs.lemmas.Str.{encodes_same, encodes-append, encodes-IsAscii}
use Rattle.std.proofs.lemmas.Str.Ascii.{IsAscii-nil, IsAscii-cons}
use Rattle.std.proofs.lemmas.Bool.Decides.{nat_tests}

both : (a b : Bool) → (a && b) ≡ true → (a ≡ true) × (b ≡ true)
both true b e = (refl, e)
both false b e = cc

ascii_below : (c : ℕ) → is_ascii c ≡ true → c < 128
ascii_below c h = grind (arith, nat_tests, h)

ascii_all : (bs : List ℕ) → list_all is_ascii bs ≡ true → IsAscii bs
ascii_all [] h = IsAscii-nil
ascii_all (b ∷ bs) h = let w = both (is_ascii b) (list_all is_ascii bs) h in IsAscii-cons b bs (ascii_below b w.0) (ascii_all bs w.1)

-- a text whose bytes are these of ASCII
pub ascii_text : (it bs : List ℕ) → list_all is_ascii bs ≡ true → encode_utf8_all it ≡ bs → it ≡ bs
ascii_text it bs h e = encodes_same it bs (e ∙ sym (encodes-IsAscii bs (ascii_all bs h)))

-- a text whose bytes are those of two texts
pub joined_text : (it a b : List ℕ) → encode_utf8_all it ≡ encode_utf8_all a ++ encode_utf8_all b → it ≡ a ++ b
joined_text it a b e = encodes_same it (a ++ b) (e ∙ sym (encodes-append a b))
