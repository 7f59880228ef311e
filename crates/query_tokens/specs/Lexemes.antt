-- The tokens of the query profile as trees, rule by rule of the SPARQL 1.1 grammar (section 19.8): what each is spelled, and its value.
use Rattle.std.specs.Prelude.{◌≡◌, ℕ, ◌+◌, ◌*◌, Bool, IsTrue, List, [], ◌∷◌, length, Option, Some, None, codes, ◌==◌, if◌then◌else◌, encode_utf8_all}
use Rattle.std.specs.Char.{digit_value}
use lib.Utf8.{scalar}
use Rattle.rdf_term.specs.Escapes.{echar_meaning}
use Rattle.query_tokens.specs.declared.token.Token.{Token}
use Rattle.query_tokens.specs.declared.token.Token.TheVariants as token
use Rattle.query_tokens.specs.declared.token.Number.{Number as NumberKind}
use Rattle.query_tokens.specs.declared.token.Number.TheVariants as number
use Rattle.query_tokens.specs.declared.kind.Quoted.{Quoted}
use Rattle.query_tokens.specs.declared.kind.Quoted.TheVariants as quoted
use Rattle.rdf_term.specs.Classes.{is_digit, is_letter, is_one_of, is_hex_digit}
use Rattle.query_model.specs.WellFormed.{is_var_char, is_name_char, is_dotted, is_label_start}
use Rattle.query_tokens.specs.Classes.{is_base, is_local_start, is_local_char, is_local_dotted, is_local_escape, is_alphanumeric, is_exponent_mark, is_sign, is_mark, closing, is_raw, is_short_escape}
use Rattle.query_tokens.specs.Words.{word_of}

-- a character of a class
pub record In (class : ℕ → Bool) : Type 0 where
  pub char : ℕ
  pub fits : IsTrue (class char)

-- Each rule says its characters in front of those that follow.
abbrev pub chars : {class : ℕ → Bool} → List (In class) → List ℕ → List ℕ
chars [] rest = rest
chars (c ∷ cs) rest = c.char ∷ chars cs rest

abbrev pub optional : {class : ℕ → Bool} → Option (In class) → List ℕ → List ℕ
optional None rest = rest
optional (Some c) rest = c.char ∷ rest

-- ( ( PN_CHARS | '.' )* PN_CHARS )?
pub record Ends : Type 0 where
  pub inner : List (In is_dotted)
  pub last : In is_name_char

abbrev pub ends : Option Ends → List ℕ → List ℕ
ends None rest = rest
ends (Some e) rest = chars e.inner (e.last.char ∷ rest)

-- PN_PREFIX ::= PN_CHARS_BASE ( ( PN_CHARS | '.' )* PN_CHARS )?
pub record Prefix : Type 0 where
  pub first : In is_base
  pub more : Option Ends

abbrev pub prefix : Option Prefix → List ℕ → List ℕ
prefix None rest = rest
prefix (Some p) rest = p.first.char ∷ ends p.more rest

-- one character of a local part, or PLX ::= '%' HEX HEX | '\' and a mark
pub data LocalPiece (class : ℕ → Bool) : Type 0 where
  Plain : In class → LocalPiece class
  Percent : In is_hex_digit → In is_hex_digit → LocalPiece class
  Escaped : In is_local_escape → LocalPiece class

abbrev pub local_piece : {class : ℕ → Bool} → LocalPiece class → List ℕ → List ℕ
local_piece (Plain c) rest = c.char ∷ rest
local_piece (Percent h i) rest = 37 ∷ h.char ∷ i.char ∷ rest
local_piece (Escaped c) rest = 92 ∷ c.char ∷ rest

-- its value: %HH is kept, and the backslash of an escape is dropped
abbrev pub local_value : {class : ℕ → Bool} → LocalPiece class → List ℕ → List ℕ
local_value (Plain c) rest = c.char ∷ rest
local_value (Percent h i) rest = 37 ∷ h.char ∷ i.char ∷ rest
local_value (Escaped c) rest = c.char ∷ rest

abbrev pub local_pieces : {class : ℕ → Bool} → List (LocalPiece class) → List ℕ → List ℕ
local_pieces [] rest = rest
local_pieces (p ∷ ps) rest = local_piece p (local_pieces ps rest)

abbrev pub local_values : {class : ℕ → Bool} → List (LocalPiece class) → List ℕ → List ℕ
local_values [] rest = rest
local_values (p ∷ ps) rest = local_value p (local_values ps rest)

-- PN_LOCAL ::= ( PN_CHARS_U | ':' | [0-9] | PLX ) ( ( PN_CHARS | '.' | ':' | PLX )* ( PN_CHARS | ':' | PLX ) )?
pub record LocalEnds : Type 0 where
  pub inner : List (LocalPiece is_local_dotted)
  pub last : LocalPiece is_local_char

pub record Local : Type 0 where
  pub first : LocalPiece is_local_start
  pub more : Option LocalEnds

abbrev pub local_ends : Option LocalEnds → List ℕ
local_ends None = []
local_ends (Some e) = local_pieces e.inner (local_piece e.last [])

abbrev pub local_ends_value : Option LocalEnds → List ℕ
local_ends_value None = []
local_ends_value (Some e) = local_values e.inner (local_value e.last [])

abbrev pub local : Option Local → List ℕ
local None = []
local (Some l) = local_piece l.first (local_ends l.more)

-- the number that hexadecimal digits name behind those that name n
abbrev pub hex_number : ℕ → List (In is_hex_digit) → ℕ
hex_number n [] = n
hex_number n (d ∷ ds) = hex_number (n * 16 + digit_value d.char) ds

-- so many hexadecimal digits, which name a Unicode scalar value
pub record Hex (count : ℕ) : Type 0 where
  pub digits : List (In is_hex_digit)
  pub counted : length digits ≡ count
  pub names : IsTrue (scalar (hex_number 0 digits))

-- one character of an IRI or a string: itself, ECHAR, or UCHAR ::= '\u' HEX HEX HEX HEX | '\U' and eight HEX
pub data Piece (form : Quoted) : Type 0 where
  Raw : In (is_raw form) → Piece form
  Short : In (is_short_escape form) → Piece form
  Four : Hex 4 → Piece form
  Eight : Hex 8 → Piece form

abbrev pub piece : {form : Quoted} → Piece form → List ℕ → List ℕ
piece (Raw c) rest = c.char ∷ rest
piece (Short e) rest = 92 ∷ e.char ∷ rest
piece (Four hex) rest = 92 ∷ 117 ∷ chars hex.digits rest
piece (Eight hex) rest = 92 ∷ 85 ∷ chars hex.digits rest

abbrev pub pieces : {form : Quoted} → List (Piece form) → List ℕ → List ℕ
pieces [] rest = rest
pieces (p ∷ ps) rest = piece p (pieces ps rest)

-- the character that is meant
abbrev pub meaning : {form : Quoted} → Piece form → ℕ
meaning (Raw c) = c.char
meaning (Short e) = echar_meaning e.char
meaning (Four hex) = hex_number 0 hex.digits
meaning (Eight hex) = hex_number 0 hex.digits

abbrev pub meanings : {form : Quoted} → List (Piece form) → List ℕ
meanings [] = []
meanings (p ∷ ps) = meaning p ∷ meanings ps

-- '-' [a-zA-Z0-9]+ of a language tag
pub record TagPart : Type 0 where
  pub first : In is_alphanumeric
  pub more : List (In is_alphanumeric)

abbrev pub tag_parts : List TagPart → List ℕ
tag_parts [] = []
tag_parts (p ∷ ps) = 45 ∷ p.first.char ∷ chars p.more (tag_parts ps)

-- EXPONENT ::= [eE] [+-]? [0-9]+
pub record Exponent : Type 0 where
  pub mark : In is_exponent_mark
  pub sign : Option (In is_sign)
  pub first : In is_digit
  pub more : List (In is_digit)

abbrev pub exponent : Exponent → List ℕ
exponent e = e.mark.char ∷ optional e.sign (e.first.char ∷ chars e.more [])

-- what stands before an exponent: [0-9]+ '.' [0-9]* | '.' [0-9]+ | [0-9]+
pub data Mantissa : Type 0 where
  Pointed : In is_digit → List (In is_digit) → List (In is_digit) → Mantissa
  Fraction : In is_digit → List (In is_digit) → Mantissa
  Bare : In is_digit → List (In is_digit) → Mantissa

abbrev pub mantissa : Mantissa → List ℕ → List ℕ
mantissa (Pointed d ds fs) rest = d.char ∷ chars ds (46 ∷ chars fs rest)
mantissa (Fraction f fs) rest = 46 ∷ f.char ∷ chars fs rest
mantissa (Bare d ds) rest = d.char ∷ chars ds rest

-- INTEGER ::= [0-9]+, DECIMAL ::= [0-9]* '.' [0-9]+, DOUBLE
pub data Numeral : Type 0 where
  Whole : In is_digit → List (In is_digit) → Numeral
  Decimal : List (In is_digit) → In is_digit → List (In is_digit) → Numeral
  Double : Mantissa → Exponent → Numeral

abbrev pub numeral : Numeral → List ℕ
numeral (Whole d ds) = d.char ∷ chars ds []
numeral (Decimal ds f fs) = chars ds (46 ∷ f.char ∷ chars fs [])
numeral (Double m e) = mantissa m (exponent e)

abbrev pub whole_kind : Option (In is_sign) → NumberKind
whole_kind None = number.Digits
whole_kind (Some s) = number.Integer

abbrev pub numeral_kind : NumberKind → Numeral → NumberKind
numeral_kind whole (Whole d ds) = whole
numeral_kind whole (Decimal ds f fs) = number.Decimal
numeral_kind whole (Double m e) = number.Double

-- A token: a word, a prefixed name, an IRI or a string, three quotes in succession, VAR1 or VAR2, BLANK_NODE_LABEL, LANGTAG,
-- a number, or a mark.
pub data Lexeme : Type 0 where
  Word : In is_letter → List (In is_letter) → Lexeme
  Name : Option Prefix → Option Local → Lexeme
  Between : (form : Quoted) → List (Piece form) → Lexeme
  DoubleQuotes : Lexeme
  SingleQuotes : Lexeme
  Var : In (is_one_of (codes "?$")) → In is_label_start → List (In is_var_char) → Lexeme
  Label : In is_label_start → Option Ends → Lexeme
  Tag : In is_letter → List (In is_letter) → List TagPart → Lexeme
  Number : Option (In is_sign) → Numeral → Lexeme
  Mark : In is_mark → Lexeme
  Carets : Lexeme

abbrev pub opening : Quoted → ℕ
opening quoted.Iri = 60
opening quoted.Double = 34
opening quoted.Single = 39

-- the characters of a token
abbrev pub spelling : Lexeme → List ℕ
spelling (Word c cs) = c.char ∷ chars cs []
spelling (Name p l) = prefix p (58 ∷ local l)
spelling (Between form ps) = opening form ∷ pieces ps (closing form ∷ [])
spelling DoubleQuotes = 34 ∷ 34 ∷ 34 ∷ []
spelling SingleQuotes = 39 ∷ 39 ∷ 39 ∷ []
spelling (Var s c cs) = s.char ∷ c.char ∷ chars cs []
spelling (Label c e) = 95 ∷ 58 ∷ c.char ∷ ends e []
spelling (Tag c cs ps) = 64 ∷ c.char ∷ chars cs (tag_parts ps)
spelling (Number s n) = optional s (numeral n)
spelling (Mark m) = m.char ∷ []
spelling Carets = 94 ∷ 94 ∷ []

-- the mark of one character
abbrev pub mark_of : ℕ → Token
mark_of c =
    if c == 123 then token.Open else if c == 125 then token.Close else if c == 46 then token.Dot
    else if c == 59 then token.Semicolon else if c == 44 then token.Comma else if c == 42 then token.Star
    else if is_one_of (codes "[(/|^+!") c then token.Unsupported else token.Other

abbrev pub name_value : List ℕ → Option Local → Token
name_value p None = token.Namespace p
name_value p (Some l) = token.Name p (local_value l.first (local_ends_value l.more))

abbrev pub quoted_value : Quoted → List ℕ → Token
quoted_value quoted.Iri text = token.Iri text
quoted_value quoted.Double text = token.Str text
quoted_value quoted.Single text = token.Str text

-- the value of a token
abbrev pub value : Lexeme → Token
value (Word c cs) = word_of (encode_utf8_all (c.char ∷ chars cs []))
value (Name p l) = name_value (prefix p []) l
value (Between form ps) = quoted_value form (meanings ps)
value DoubleQuotes = token.Quotes
value SingleQuotes = token.Quotes
value (Var s c cs) = token.Var (c.char ∷ chars cs [])
value (Label c e) = token.Label (c.char ∷ ends e [])
value (Tag c cs ps) = token.Tag (c.char ∷ chars cs (tag_parts ps))
value (Number s n) = token.Number (numeral_kind (whole_kind s) n) (optional s (numeral n))
value (Mark m) = mark_of m.char
value Carets = token.Carets
