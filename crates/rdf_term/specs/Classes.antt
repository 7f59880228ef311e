-- The classes of characters of RDF 1.1 N-Triples, section 7, by the names of its grammar.
use Rattle.std.specs.Prelude.{ℕ, List, [], ◌∷◌, Bool, nat_le, ◌==◌, ◌&&◌, ◌||◌, not, codes}
use Rattle.std.specs.List.{list_any}

-- the character lies in one of these ranges, both ends included
abbrev pub is_in : List (ℕ × ℕ) → ℕ → Bool
is_in ranges c = list_any (λ r. nat_le r.0 c && nat_le c r.1) ranges

-- the character is one of these
abbrev pub is_one_of : List ℕ → ℕ → Bool
is_one_of cs c = list_any (λ d. d == c) cs

-- [0-9] and [A-Za-z]
abbrev pub is_digit : ℕ → Bool
is_digit = is_in ((0x30, 0x39) ∷ [])

abbrev pub is_letter : ℕ → Bool
is_letter = is_in ((0x41, 0x5A) ∷ (0x61, 0x7A) ∷ [])

-- HEX ::= [0-9] | [A-F] | [a-f]
abbrev pub is_hex_digit : ℕ → Bool
is_hex_digit = is_in ((0x30, 0x39) ∷ (0x41, 0x46) ∷ (0x61, 0x66) ∷ [])

-- PN_CHARS_BASE
abbrev pub pn_chars_base : List (ℕ × ℕ)
pn_chars_base =
    (0x41, 0x5A) ∷ (0x61, 0x7A) ∷ (0xC0, 0xD6) ∷ (0xD8, 0xF6) ∷ (0xF8, 0x2FF) ∷ (0x370, 0x37D) ∷ (0x37F, 0x1FFF)
    ∷ (0x200C, 0x200D) ∷ (0x2070, 0x218F) ∷ (0x2C00, 0x2FEF) ∷ (0x3001, 0xD7FF) ∷ (0xF900, 0xFDCF)
    ∷ (0xFDF0, 0xFFFD) ∷ (0x1_0000, 0xE_FFFF) ∷ []

-- PN_CHARS_U ::= PN_CHARS_BASE | '_' | ':'
abbrev pub pn_chars_u : ℕ → Bool
pn_chars_u c = is_in pn_chars_base c || is_one_of (codes "_:") c

-- PN_CHARS ::= PN_CHARS_U | '-' | [0-9] | #x00B7 | [#x0300-#x036F] | [#x203F-#x2040]
abbrev pub pn_chars : ℕ → Bool
pn_chars c = pn_chars_u c || is_digit c || is_one_of (codes "-") c
    || is_in ((0xB7, 0xB7) ∷ (0x300, 0x36F) ∷ (0x203F, 0x2040) ∷ []) c

-- what may stand raw between < and >: [^#x00-#x20<>"{}|^`\]
abbrev pub is_iri_char : ℕ → Bool
is_iri_char c = nat_le 0x21 c && not (is_one_of (codes "<>\"{}|^`\\") c)

-- what may stand raw in a string: [^#x22#x5C#xA#xD]
abbrev pub is_string_char : ℕ → Bool
is_string_char c = not (is_one_of (codes "\"\\\n\r") c)
