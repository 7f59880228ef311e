-- What is left of a token in each state of the machine: its characters, its kind, and its texts.
use Rattle.std.proofs.Common.{◌≡◌, ℕ, suc, Bool, true, false, IsTrue, ◌==◌, if◌then◌else◌, List, [], ◌∷◌, length, Option, Some, None}
use lib.Utf8.{scalar}
use Rattle.rdf_term.specs.Escapes.{echar_meaning}
use Rattle.rdf_term.specs.Classes.{is_digit, is_letter, is_one_of, is_hex_digit}
use Rattle.query_tokens.specs.declared.token.Number.{Number as NumberKind}
use Rattle.query_tokens.specs.declared.token.Number.TheVariants as number
use Rattle.query_tokens.specs.declared.kind.Kind.{Kind}
use Rattle.query_tokens.specs.declared.kind.Kind.TheVariants as kinds
use Rattle.query_tokens.specs.declared.kind.Quoted.{Quoted}
use Rattle.query_tokens.specs.declared.kind.Quoted.TheVariants as quoted
use Rattle.query_tokens.specs.declared.state.State.{State}
use Rattle.query_tokens.specs.declared.state.State.TheVariants as state
use Rattle.query_model.specs.WellFormed.{is_var_char, is_label_start}
use Rattle.query_tokens.specs.Classes.{is_local_escape, is_alphanumeric, is_sign, is_short_escape, closing}
use Rattle.query_tokens.specs.Lexemes.{In, chars, optional, Ends, ends, prefix, local_value, LocalEnds, Local, local_ends, local_ends_value, local, hex_number, Hex, Piece, pieces, meanings, TagPart, tag_parts, Exponent, exponent, Numeral, numeral, numeral_kind, whole_kind, Lexeme, Word, Name, Between, DoubleQuotes, SingleQuotes, Var, Label, Tag, Number, Mark, Carets, spelling}
use Rattle.query_tokens.specs.Scanner.{quoted_kind, Texts, no_texts, emitted}

pub data AfterLetters : Type 0 where
  AWord : List (In is_letter) → AfterLetters
  AName : Option Ends → Option Local → AfterLetters

pub data AfterOpened (form : Quoted) : Type 0 where
  AText : List (Piece form) → AfterOpened form
  AQuotes : AfterOpened form

pub data AfterEscape (form : Quoted) : Type 0 where
  AShort : In (is_short_escape form) → List (Piece form) → AfterEscape form
  AFour : Hex 4 → List (Piece form) → AfterEscape form
  AEight : Hex 8 → List (Piece form) → AfterEscape form

-- one digit and so many more are to come
pub record HexLeft (form : Quoted) (left number : ℕ) : Type 0 where
  pub digits : List (In is_hex_digit)
  pub counted : length digits ≡ suc left
  pub names : IsTrue (scalar (hex_number number digits))
  pub more : List (Piece form)

pub data AfterDigits : Type 0 where
  AWhole : List (In is_digit) → AfterDigits
  ADecimal : List (In is_digit) → In is_digit → List (In is_digit) → AfterDigits
  APointed : List (In is_digit) → List (In is_digit) → Exponent → AfterDigits
  ABare : List (In is_digit) → Exponent → AfterDigits

pub data AfterPoint : Type 0 where
  PDecimal : In is_digit → List (In is_digit) → AfterPoint
  PDouble : List (In is_digit) → Exponent → AfterPoint

abbrev pub Fractional : Type 0
Fractional = In is_digit × List (In is_digit) × Option Exponent

abbrev pub AVar : Type 0
AVar = In is_label_start × List (In is_var_char)

abbrev pub ATag : Type 0
ATag = In is_letter × List (In is_letter) × List TagPart

abbrev pub Tail : State → Type 0
Tail state.Start = Lexeme
Tail state.Letters = AfterLetters
Tail state.Prefix = Option Ends × Option Local
Tail state.PrefixDot = Ends × Option Local
Tail state.Colon = Option Local
Tail state.Local = Option LocalEnds
Tail state.LocalDot = LocalEnds
Tail state.Percent = In is_hex_digit × In is_hex_digit × Option LocalEnds
Tail state.PercentDigit = In is_hex_digit × Option LocalEnds
Tail state.LocalEscape = In is_local_escape × Option LocalEnds
Tail state.Question = Option AVar
Tail state.Dollar = AVar
Tail state.Variable = List (In is_var_char)
Tail state.Underscore = In is_label_start × Option Ends
Tail state.LabelColon = In is_label_start × Option Ends
Tail state.LabelChars = Option Ends
Tail state.LabelDot = Ends
Tail state.Less = Option (List (Piece quoted.Iri))
Tail (state.Opened form) = AfterOpened form
Tail (state.Emptied form) = Bool
Tail (state.Inside form) = List (Piece form)
Tail (state.Escape form) = AfterEscape form
Tail (state.Hex form left n) = HexLeft form left n
Tail state.At = Option ATag
Tail state.TagLetters = List (In is_letter) × List TagPart
Tail state.TagDash = TagPart × List TagPart
Tail state.TagPart = List (In is_alphanumeric) × List TagPart
Tail (state.Sign k) = Option Numeral
Tail (state.Digits k) = AfterDigits
Tail state.DigitsDot = AfterPoint
Tail state.SignDot = Fractional
Tail state.Dot = Option Fractional
Tail state.Fraction = List (In is_digit) × Option Exponent
Tail state.Exponent = Option (In is_sign) × In is_digit × List (In is_digit)
Tail state.ExponentSign = In is_digit × List (In is_digit)
Tail state.ExponentDigits = List (In is_digit)
Tail state.Caret = Bool
Tail (state.Done k) = Unit {0}

abbrev pub after_letters : AfterLetters → List ℕ
after_letters (AWord cs) = chars cs []
after_letters (AName e l) = ends e (58 ∷ local l)

abbrev pub var_chars : AVar → List ℕ
var_chars v = v.0.char ∷ chars v.1 []

abbrev pub after_question : Option AVar → List ℕ
after_question None = []
after_question (Some v) = var_chars v

abbrev pub quoted_chars : (form : Quoted) → List (Piece form) → List ℕ
quoted_chars form ps = pieces ps (closing form ∷ [])

abbrev pub after_less : Option (List (Piece quoted.Iri)) → List ℕ
after_less None = []
after_less (Some ps) = quoted_chars quoted.Iri ps

abbrev pub after_opened : (form : Quoted) → AfterOpened form → List ℕ
after_opened form (AText ps) = quoted_chars form ps
after_opened form AQuotes = closing form ∷ closing form ∷ []

abbrev pub after_emptied : Quoted → Bool → List ℕ
after_emptied form false = []
after_emptied form true = closing form ∷ []

abbrev pub after_escape : (form : Quoted) → AfterEscape form → List ℕ
after_escape form (AShort e ps) = e.char ∷ quoted_chars form ps
after_escape form (AFour h ps) = 117 ∷ chars h.digits (quoted_chars form ps)
after_escape form (AEight h ps) = 85 ∷ chars h.digits (quoted_chars form ps)

abbrev pub tag_chars : ATag → List ℕ
tag_chars t = t.0.char ∷ chars t.1 (tag_parts t.2)

abbrev pub after_at : Option ATag → List ℕ
after_at None = []
after_at (Some t) = tag_chars t

abbrev pub after_sign : Option Numeral → List ℕ
after_sign None = []
after_sign (Some n) = numeral n

abbrev pub exponent_or_end : Option Exponent → List ℕ
exponent_or_end None = []
exponent_or_end (Some e) = exponent e

abbrev pub fraction_chars : Fractional → List ℕ
fraction_chars f = f.0.char ∷ chars f.1 (exponent_or_end f.2)

abbrev pub after_digits : AfterDigits → List ℕ
after_digits (AWhole ds) = chars ds []
after_digits (ADecimal ds f fs) = chars ds (46 ∷ f.char ∷ chars fs [])
after_digits (APointed ds fs e) = chars ds (46 ∷ chars fs (exponent e))
after_digits (ABare ds e) = chars ds (exponent e)

abbrev pub after_point : AfterPoint → List ℕ
after_point (PDecimal f fs) = f.char ∷ chars fs []
after_point (PDouble fs e) = chars fs (exponent e)

abbrev pub after_dot : Option Fractional → List ℕ
after_dot None = []
after_dot (Some f) = fraction_chars f

abbrev pub after_caret : Bool → List ℕ
after_caret false = []
after_caret true = 94 ∷ []

abbrev pub tail_chars : (s : State) → Tail s → List ℕ
tail_chars state.Start x = spelling x
tail_chars state.Letters x = after_letters x
tail_chars state.Prefix x = ends x.0 (58 ∷ local x.1)
tail_chars state.PrefixDot x = ends (Some x.0) (58 ∷ local x.1)
tail_chars state.Colon x = local x
tail_chars state.Local x = local_ends x
tail_chars state.LocalDot x = local_ends (Some x)
tail_chars state.Percent x = x.0.char ∷ x.1.char ∷ local_ends x.2
tail_chars state.PercentDigit x = x.0.char ∷ local_ends x.1
tail_chars state.LocalEscape x = x.0.char ∷ local_ends x.1
tail_chars state.Question x = after_question x
tail_chars state.Dollar x = var_chars x
tail_chars state.Variable x = chars x []
tail_chars state.Underscore x = 58 ∷ x.0.char ∷ ends x.1 []
tail_chars state.LabelColon x = x.0.char ∷ ends x.1 []
tail_chars state.LabelChars x = ends x []
tail_chars state.LabelDot x = ends (Some x) []
tail_chars state.Less x = after_less x
tail_chars (state.Opened form) x = after_opened form x
tail_chars (state.Emptied form) x = after_emptied form x
tail_chars (state.Inside form) x = quoted_chars form x
tail_chars (state.Escape form) x = after_escape form x
tail_chars (state.Hex form left n) x = chars x.digits (quoted_chars form x.more)
tail_chars state.At x = after_at x
tail_chars state.TagLetters x = chars x.0 (tag_parts x.1)
tail_chars state.TagDash x = x.0.first.char ∷ chars x.0.more (tag_parts x.1)
tail_chars state.TagPart x = chars x.0 (tag_parts x.1)
tail_chars (state.Sign k) x = after_sign x
tail_chars (state.Digits k) x = after_digits x
tail_chars state.DigitsDot x = after_point x
tail_chars state.SignDot x = fraction_chars x
tail_chars state.Dot x = after_dot x
tail_chars state.Fraction x = chars x.0 (exponent_or_end x.1)
tail_chars state.Exponent x = optional x.0 (x.1.char ∷ chars x.2 [])
tail_chars state.ExponentSign x = x.0.char ∷ chars x.1 []
tail_chars state.ExponentDigits x = chars x []
tail_chars state.Caret x = after_caret x
tail_chars (state.Done k) x = []

-- the kinds

abbrev pub name_kind : Option Local → Kind
name_kind None = kinds.Namespace
name_kind (Some l) = kinds.Name

abbrev pub mark_kind : ℕ → Kind
mark_kind c =
    if c == 123 then kinds.Open else if c == 125 then kinds.Close else if c == 46 then kinds.Dot
    else if c == 59 then kinds.Semicolon else if c == 44 then kinds.Comma else if c == 42 then kinds.Star
    else if is_one_of (91 ∷ 40 ∷ 47 ∷ 124 ∷ 94 ∷ 43 ∷ 33 ∷ []) c then kinds.Unsupported else kinds.Other

abbrev pub kind : Lexeme → Kind
kind (Word c cs) = kinds.Word
kind (Name p l) = name_kind l
kind (Between form ps) = quoted_kind form
kind DoubleQuotes = kinds.Quotes
kind SingleQuotes = kinds.Quotes
kind (Var s c cs) = kinds.Var
kind (Label c e) = kinds.Label
kind (Tag c cs ps) = kinds.Tag
kind (Number s n) = kinds.Number (numeral_kind (whole_kind s) n)
kind (Mark m) = mark_kind m.char
kind Carets = kinds.Carets

abbrev pub after_letters_kind : AfterLetters → Kind
after_letters_kind (AWord cs) = kinds.Word
after_letters_kind (AName e l) = name_kind l

abbrev pub either_kind : {A : Type 0} → Kind → Kind → Option A → Kind
either_kind none some None = none
either_kind none some (Some x) = some

abbrev pub after_opened_kind : (form : Quoted) → AfterOpened form → Kind
after_opened_kind form (AText ps) = quoted_kind form
after_opened_kind form AQuotes = kinds.Quotes

abbrev pub chosen_kind : Kind → Kind → Bool → Kind
chosen_kind none some false = none
chosen_kind none some true = some

abbrev pub after_sign_kind : Kind → Option Numeral → Kind
after_sign_kind k None = k
after_sign_kind k (Some n) = kinds.Number (numeral_kind number.Integer n)

abbrev pub after_digits_kind : NumberKind → AfterDigits → NumberKind
after_digits_kind k (AWhole ds) = k
after_digits_kind k (ADecimal ds f fs) = number.Decimal
after_digits_kind k (APointed ds fs e) = number.Double
after_digits_kind k (ABare ds e) = number.Double

abbrev pub after_point_kind : AfterPoint → NumberKind
after_point_kind (PDecimal f fs) = number.Decimal
after_point_kind (PDouble fs e) = number.Double

abbrev pub fraction_kind : Option Exponent → NumberKind
fraction_kind None = number.Decimal
fraction_kind (Some e) = number.Double

abbrev pub after_dot_kind : Option Fractional → Kind
after_dot_kind None = kinds.Dot
after_dot_kind (Some f) = kinds.Number (fraction_kind f.2)

abbrev pub tail_kind : (s : State) → Tail s → Kind
tail_kind state.Start x = kind x
tail_kind state.Letters x = after_letters_kind x
tail_kind state.Prefix x = name_kind x.1
tail_kind state.PrefixDot x = name_kind x.1
tail_kind state.Colon x = name_kind x
tail_kind state.Local x = kinds.Name
tail_kind state.LocalDot x = kinds.Name
tail_kind state.Percent x = kinds.Name
tail_kind state.PercentDigit x = kinds.Name
tail_kind state.LocalEscape x = kinds.Name
tail_kind state.Question x = either_kind kinds.Other kinds.Var x
tail_kind state.Dollar x = kinds.Var
tail_kind state.Variable x = kinds.Var
tail_kind state.Underscore x = kinds.Label
tail_kind state.LabelColon x = kinds.Label
tail_kind state.LabelChars x = kinds.Label
tail_kind state.LabelDot x = kinds.Label
tail_kind state.Less x = either_kind kinds.Other kinds.Iri x
tail_kind (state.Opened form) x = after_opened_kind form x
tail_kind (state.Emptied form) x = chosen_kind (quoted_kind form) kinds.Quotes x
tail_kind (state.Inside form) x = quoted_kind form
tail_kind (state.Escape form) x = quoted_kind form
tail_kind (state.Hex form left n) x = quoted_kind form
tail_kind state.At x = either_kind kinds.Other kinds.Tag x
tail_kind state.TagLetters x = kinds.Tag
tail_kind state.TagDash x = kinds.Tag
tail_kind state.TagPart x = kinds.Tag
tail_kind (state.Sign k) x = after_sign_kind k x
tail_kind (state.Digits k) x = kinds.Number (after_digits_kind k x)
tail_kind state.DigitsDot x = kinds.Number (after_point_kind x)
tail_kind state.SignDot x = kinds.Number (fraction_kind x.2)
tail_kind state.Dot x = after_dot_kind x
tail_kind state.Fraction x = kinds.Number (fraction_kind x.1)
tail_kind state.Exponent x = kinds.Number number.Double
tail_kind state.ExponentSign x = kinds.Number number.Double
tail_kind state.ExponentDigits x = kinds.Number number.Double
tail_kind state.Caret x = chosen_kind kinds.Unsupported kinds.Carets x
tail_kind (state.Done k) x = k

-- the texts

abbrev pub one : List ℕ → Texts
one cs = record { first = cs; second = [] }

abbrev pub local_text : Option Local → List ℕ
local_text None = []
local_text (Some l) = local_value l.first (local_ends_value l.more)

abbrev pub texts : Lexeme → Texts
texts (Word c cs) = one (c.char ∷ chars cs [])
texts (Name p l) = record { first = prefix p []; second = local_text l }
texts (Between form ps) = one (meanings ps)
texts DoubleQuotes = no_texts
texts SingleQuotes = no_texts
texts (Var s c cs) = one (c.char ∷ chars cs [])
texts (Label c e) = one (c.char ∷ ends e [])
texts (Tag c cs ps) = one (c.char ∷ chars cs (tag_parts ps))
texts (Number s n) = one (optional s (numeral n))
texts (Mark m) = emitted state.Start (m.char ∷ [])
texts Carets = no_texts

abbrev pub after_letters_texts : AfterLetters → Texts
after_letters_texts (AWord cs) = one (chars cs [])
after_letters_texts (AName e l) = record { first = ends e []; second = local_text l }

abbrev pub after_less_texts : Option (List (Piece quoted.Iri)) → Texts
after_less_texts None = no_texts
after_less_texts (Some ps) = one (meanings ps)

abbrev pub after_opened_texts : (form : Quoted) → AfterOpened form → Texts
after_opened_texts form (AText ps) = one (meanings ps)
after_opened_texts form AQuotes = no_texts

abbrev pub after_escape_texts : (form : Quoted) → AfterEscape form → Texts
after_escape_texts form (AShort e ps) = one (echar_meaning e.char ∷ meanings ps)
after_escape_texts form (AFour h ps) = one (hex_number 0 h.digits ∷ meanings ps)
after_escape_texts form (AEight h ps) = one (hex_number 0 h.digits ∷ meanings ps)

abbrev pub tail_texts : (s : State) → Tail s → Texts
tail_texts state.Start x = texts x
tail_texts state.Letters x = after_letters_texts x
tail_texts state.Prefix x = record { first = ends x.0 []; second = local_text x.1 }
tail_texts state.PrefixDot x = record { first = ends (Some x.0) []; second = local_text x.1 }
tail_texts state.Colon x = record { first = []; second = local_text x }
tail_texts state.Local x = record { first = []; second = local_ends_value x }
tail_texts state.LocalDot x = record { first = []; second = local_ends_value (Some x) }
tail_texts state.Percent x = record { first = []; second = x.0.char ∷ x.1.char ∷ local_ends_value x.2 }
tail_texts state.PercentDigit x = record { first = []; second = x.0.char ∷ local_ends_value x.1 }
tail_texts state.LocalEscape x = record { first = []; second = x.0.char ∷ local_ends_value x.1 }
tail_texts state.Question x = one (after_question x)
tail_texts state.Dollar x = one (var_chars x)
tail_texts state.Variable x = one (chars x [])
tail_texts state.Underscore x = one (x.0.char ∷ ends x.1 [])
tail_texts state.LabelColon x = one (x.0.char ∷ ends x.1 [])
tail_texts state.LabelChars x = one (ends x [])
tail_texts state.LabelDot x = one (ends (Some x) [])
tail_texts state.Less x = after_less_texts x
tail_texts (state.Opened form) x = after_opened_texts form x
tail_texts (state.Emptied form) x = no_texts
tail_texts (state.Inside form) x = one (meanings x)
tail_texts (state.Escape form) x = after_escape_texts form x
tail_texts (state.Hex form left n) x = one (hex_number n x.digits ∷ meanings x.more)
tail_texts state.At x = one (after_at x)
tail_texts state.TagLetters x = one (chars x.0 (tag_parts x.1))
tail_texts state.TagDash x = one (x.0.first.char ∷ chars x.0.more (tag_parts x.1))
tail_texts state.TagPart x = one (chars x.0 (tag_parts x.1))
tail_texts (state.Sign k) x = one (after_sign x)
tail_texts (state.Digits k) x = one (after_digits x)
tail_texts state.DigitsDot x = one (after_point x)
tail_texts state.SignDot x = one (fraction_chars x)
tail_texts state.Dot x = one (after_dot x)
tail_texts state.Fraction x = one (chars x.0 (exponent_or_end x.1))
tail_texts state.Exponent x = one (optional x.0 (x.1.char ∷ chars x.2 []))
tail_texts state.ExponentSign x = one (x.0.char ∷ chars x.1 [])
tail_texts state.ExponentDigits x = one (chars x [])
tail_texts state.Caret x = no_texts
tail_texts (state.Done k) x = no_texts
