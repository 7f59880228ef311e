-- How the characters of an IRI or a string are written: RDF 1.1 N-Triples, section 7, IRIREF and STRING_LITERAL_QUOTE.
use Rattle.std.specs.Prelude.{◌≡◌, ℕ, ◌+◌, ◌*◌, List, [], ◌∷◌, ◌++◌, length, fold, map, IsTrue, Bool, true, false, ◌==◌, ◌&&◌, codes}
use Rattle.std.specs.List.{flat_map, list_all}
use Rattle.std.specs.Char.{digit_value}
use lib.Utf8.{scalar}
use Rattle.rdf_term.specs.Classes.{is_hex_digit, is_iri_char, is_string_char}
use Rattle.rdf_term.specs.Escapes.{is_echar, echar_meaning}
use Rattle.nquads_line.specs.declared.quoted.Quoted.{Quoted}
use Rattle.nquads_line.specs.declared.quoted.Quoted.TheVariants.{Iri, Literal}

-- one character of a text, as it is written: itself, an ECHAR, or a UCHAR of four or of eight digits
pub data Piece : Type 0 where
  Raw : ℕ → Piece
  Short : ℕ → Piece
  Four : List ℕ → Piece
  Eight : List ℕ → Piece

-- the characters that are written
abbrev pub spelling : Piece → List ℕ
spelling (Raw c) = c ∷ []
spelling (Short e) = codes "\\" ++ e ∷ []
spelling (Four hex) = codes "\\u" ++ hex
spelling (Eight hex) = codes "\\U" ++ hex

-- the number that hexadecimal digits name
abbrev pub hex_value : List ℕ → ℕ
hex_value hex = fold (λ n h. n * 16 + digit_value h) 0 hex

-- the character that is meant
abbrev pub meaning : Piece → ℕ
meaning (Raw c) = c
meaning (Short e) = echar_meaning e
meaning (Four hex) = hex_value hex
meaning (Eight hex) = hex_value hex

-- the digits of a UCHAR, which names a Unicode scalar value
abbrev pub is_hex : ℕ → List ℕ → Bool
is_hex count hex = length hex == count && list_all is_hex_digit hex && scalar (hex_value hex)

-- the character that closes the text
abbrev pub closing : Quoted → ℕ
closing Iri = 62
closing Literal = 34

-- [^#x00-#x20<>"{}|^`\] in an IRI, [^#x22#x5C#xA#xD] in a string
abbrev pub is_raw : Quoted → ℕ → Bool
is_raw Iri = is_iri_char
is_raw Literal = is_string_char

-- ECHAR ::= '\' [tbnrf"'\], in a string alone
abbrev pub is_short_escape : Quoted → ℕ → Bool
is_short_escape Iri e = false
is_short_escape Literal e = is_echar e

-- the characters that may be meant: an IRI holds, after its escapes are replaced too, none that IRIREF leaves out
abbrev pub is_meant : Quoted → ℕ → Bool
is_meant Iri c = is_iri_char c
is_meant Literal c = true

-- a piece of such a text
abbrev pub is_piece : Quoted → Piece → Bool
is_piece form (Raw c) = is_raw form c
is_piece form (Short e) = is_short_escape form e
is_piece form (Four hex) = is_hex 4 hex && is_meant form (hex_value hex)
is_piece form (Eight hex) = is_hex 8 hex && is_meant form (hex_value hex)

-- these pieces are written so, up to the character that closes the text and with it, and mean these characters
pub record IsWritten (form : Quoted) (text cs : List ℕ) : Type 0 where
  pub pieces : List Piece
  pub each : IsTrue (list_all (is_piece form) pieces)
  pub written : text ≡ flat_map spelling pieces ++ closing form ∷ []
  pub meant : cs ≡ map meaning pieces
