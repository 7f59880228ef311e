-- The machine that reads a token: where each character leads, where a token may end, and what its texts are.
use Rattle.std.specs.Prelude.{◌≡◌, ◌<◌, drop, ℕ, suc, ◌+◌, ◌-◌, ◌*◌, List, [], ◌∷◌, ◌++◌, Bool, true, false, ◌==◌, ◌&&◌, nat_le, not, if◌then◌else◌, Option, Some, None, encode_utf8_all}
use Rattle.std.specs.Char.{digit_value}
use lib.Utf8.{scalar}
use Rattle.rdf_term.specs.Classes.{is_digit, is_letter, is_hex_digit}
use Rattle.query_model.specs.WellFormed.{is_var_char, is_name_char, is_label_start}
use Rattle.query_tokens.specs.Classes.{is_base, is_local_start, is_local_char, is_local_escape, is_alphanumeric, is_exponent_mark, is_sign, closing, is_raw, is_short_escape}
use Rattle.rdf_term.specs.Escapes.{echar_meaning}
use Rattle.query_tokens.specs.Tokens.{is_blank, is_line_end}
use Rattle.query_tokens.specs.Words.{word_of}
use Rattle.query_tokens.specs.declared.token.Token.{Token}
use Rattle.query_tokens.specs.declared.token.Token.TheVariants as token
use Rattle.query_tokens.specs.declared.token.Number.TheVariants as number
use Rattle.query_tokens.specs.declared.kind.Quoted.{Quoted}
use Rattle.query_tokens.specs.declared.kind.Quoted.TheVariants as quoted
use Rattle.query_tokens.specs.declared.kind.Kind.{Kind}
use Rattle.query_tokens.specs.declared.kind.Kind.TheVariants as kinds
use Rattle.query_tokens.specs.declared.state.State.{State}
use Rattle.query_tokens.specs.declared.state.State.TheVariants as state
use Rattle.query_tokens.specs.declared.emit.Part.{Part}
use Rattle.query_tokens.specs.declared.emit.Part.TheVariants as part

-- where the character leads by this table
abbrev pub lookup : List (ℕ × State) → ℕ → Option State
lookup [] c = None
lookup (e ∷ es) c = if c == e.0 then Some e.1 else lookup es c

-- the marks with which a token begins
abbrev pub marks_begin : List (ℕ × State)
marks_begin =
    (58, state.Colon) ∷ (63, state.Question) ∷ (36, state.Dollar) ∷ (95, state.Underscore) ∷ (60, state.Less)
    ∷ (34, state.Opened quoted.Double) ∷ (39, state.Opened quoted.Single) ∷ (64, state.At)
    ∷ (43, state.Sign kinds.Unsupported) ∷ (45, state.Sign kinds.Other) ∷ (46, state.Dot) ∷ (94, state.Caret)
    ∷ (123, state.Done kinds.Open) ∷ (125, state.Done kinds.Close) ∷ (59, state.Done kinds.Semicolon)
    ∷ (44, state.Done kinds.Comma) ∷ (42, state.Done kinds.Star)
    ∷ (91, state.Done kinds.Unsupported) ∷ (40, state.Done kinds.Unsupported) ∷ (47, state.Done kinds.Unsupported)
    ∷ (124, state.Done kinds.Unsupported) ∷ (33, state.Done kinds.Unsupported)
    ∷ (93, state.Done kinds.Other) ∷ (41, state.Done kinds.Other) ∷ (61, state.Done kinds.Other)
    ∷ (62, state.Done kinds.Other) ∷ (38, state.Done kinds.Other) ∷ []

-- where a character leads from the start
abbrev pub from_start : ℕ → Option State
from_start c =
    if is_letter c then Some state.Letters else if is_base c then Some state.Prefix
    else if is_digit c then Some (state.Digits number.Digits) else lookup marks_begin c

-- where one leads within a prefix, its colon apart
abbrev pub in_prefix : ℕ → Option State
in_prefix c = if is_name_char c then Some state.Prefix else if c == 46 then Some state.PrefixDot else None

-- the same with the colon, behind a character with which the prefix may end
abbrev pub from_prefix : ℕ → Option State
from_prefix c = if c == 58 then Some state.Colon else in_prefix c

-- where one leads behind letters, which are a word or the front of a prefix
abbrev pub from_letters : ℕ → Option State
from_letters c = if is_letter c then Some state.Letters else if c == 58 then Some state.Colon else in_prefix c

-- where % and a backslash lead in a local part
abbrev pub in_escape_of_local : ℕ → Option State
in_escape_of_local c = if c == 37 then Some state.Percent else if c == 92 then Some state.LocalEscape else None

-- where a character leads behind the colon of a name
abbrev pub from_colon : ℕ → Option State
from_colon c = if is_local_start c then Some state.Local else in_escape_of_local c

-- where one leads within a local part
abbrev pub in_local : ℕ → Option State
in_local c =
    if is_local_char c then Some state.Local else if c == 46 then Some state.LocalDot else in_escape_of_local c

-- where one leads within a label
abbrev pub in_label : ℕ → Option State
in_label c = if is_name_char c then Some state.LabelChars else if c == 46 then Some state.LabelDot else None

-- what a whole text between these marks is
abbrev pub quoted_kind : Quoted → Kind
quoted_kind quoted.Iri = kinds.Iri
quoted_kind quoted.Double = kinds.Str
quoted_kind quoted.Single = kinds.Str

-- where a character other than the closing mark leads between two marks
abbrev pub in_quotes : Quoted → ℕ → Option State
in_quotes form c = if c == 92 then Some (state.Escape form) else if is_raw form c then Some (state.Inside form) else None

-- where one leads behind a backslash between two marks
abbrev pub in_escape : Quoted → ℕ → Option State
in_escape form c =
    if c == 117 then Some (state.Hex form 3 0) else if c == 85 then Some (state.Hex form 7 0)
    else if is_short_escape form c then Some (state.Inside form) else None

-- whether a digit may stand behind those that name n, and the number that they name then
abbrev pub adds_digit : ℕ → ℕ → Bool
adds_digit n c = is_hex_digit c && nat_le n 0x1_0FFF

-- the number that a digit makes of one, where a character's may begin so
abbrev pub hexed : ℕ → ℕ → Option ℕ
hexed n c = if adds_digit n c then Some (n * 16 + digit_value c) else None

-- where the number leads, by how many digits are to come
abbrev pub in_hex : Quoted → ℕ → ℕ → Option State
in_hex form left m =
    if left == 0 then (if scalar m then Some (state.Inside form) else None) else Some (state.Hex form (left - 1) m)

-- where a digit of an escape leads
abbrev pub from_hex : Quoted → ℕ → ℕ → ℕ → Option State
from_hex form left n c = if adds_digit n c then in_hex form left (n * 16 + digit_value c) else None

-- the state, where the test holds
abbrev pub when : Bool → State → Option State
when holds to = if holds then Some to else None

-- the first state where the first test holds, else the second where the second one does
abbrev pub either : Bool → State → Bool → State → Option State
either first to second other = if first then Some to else when second other

-- the state behind the closing mark, else one between the marks
abbrev pub closed_or_inside : Quoted → State → ℕ → Option State
closed_or_inside form to c = if c == closing form then Some to else in_quotes form c

-- where a character leads behind the digits of a number
abbrev pub in_number : ℕ → State → Option State
in_number c to = either (is_digit c) to (is_exponent_mark c) state.Exponent

-- where one leads behind a sign
abbrev pub signed : ℕ → Option State
signed c = either (is_digit c) (state.Digits number.Integer) (c == 46) state.SignDot

-- Where a character leads: from a state of a word or a name,
abbrev pub next_in_name : State → ℕ → Option State
next_in_name state.Letters c = from_letters c
next_in_name state.Prefix c = from_prefix c
next_in_name state.PrefixDot c = in_prefix c
next_in_name state.Colon c = from_colon c
next_in_name state.Local c = in_local c
next_in_name state.LocalDot c = in_local c
next_in_name state.Percent c = when (is_hex_digit c) state.PercentDigit
next_in_name state.PercentDigit c = when (is_hex_digit c) state.Local
next_in_name state.LocalEscape c = when (is_local_escape c) state.Local
next_in_name _ c = None

-- from a state between two marks
abbrev pub next_in_quotes : State → ℕ → Option State
next_in_quotes state.Less c = closed_or_inside quoted.Iri (state.Done kinds.Iri) c
next_in_quotes (state.Opened form) c = closed_or_inside form (state.Emptied form) c
next_in_quotes (state.Emptied form) c = when (c == closing form) (state.Done kinds.Quotes)
next_in_quotes (state.Inside form) c = closed_or_inside form (state.Done (quoted_kind form)) c
next_in_quotes (state.Escape form) c = in_escape form c
next_in_quotes (state.Hex form left n) c = from_hex form left n c
next_in_quotes _ c = None

-- from a state of a language tag
abbrev pub next_in_tag : State → ℕ → Option State
next_in_tag state.At c = when (is_letter c) state.TagLetters
next_in_tag state.TagLetters c = either (is_letter c) state.TagLetters (c == 45) state.TagDash
next_in_tag state.TagDash c = when (is_alphanumeric c) state.TagPart
next_in_tag state.TagPart c = either (is_alphanumeric c) state.TagPart (c == 45) state.TagDash
next_in_tag _ c = None

-- from a state of a number
abbrev pub next_in_number : State → ℕ → Option State
next_in_number (state.Sign k) c = signed c
next_in_number (state.Digits k) c = if c == 46 then Some state.DigitsDot else in_number c (state.Digits k)
next_in_number state.DigitsDot c = in_number c state.Fraction
next_in_number state.SignDot c = when (is_digit c) state.Fraction
next_in_number state.Dot c = when (is_digit c) state.Fraction
next_in_number state.Fraction c = in_number c state.Fraction
next_in_number state.Exponent c = either (is_digit c) state.ExponentDigits (is_sign c) state.ExponentSign
next_in_number state.ExponentSign c = when (is_digit c) state.ExponentDigits
next_in_number state.ExponentDigits c = when (is_digit c) state.ExponentDigits
next_in_number _ c = None

-- from each state
abbrev pub next : State → ℕ → Option State
next state.Start c = from_start c
next state.Letters c = next_in_name state.Letters c
next state.Prefix c = next_in_name state.Prefix c
next state.PrefixDot c = next_in_name state.PrefixDot c
next state.Colon c = next_in_name state.Colon c
next state.Local c = next_in_name state.Local c
next state.LocalDot c = next_in_name state.LocalDot c
next state.Percent c = next_in_name state.Percent c
next state.PercentDigit c = next_in_name state.PercentDigit c
next state.LocalEscape c = next_in_name state.LocalEscape c
next state.Question c = when (is_label_start c) state.Variable
next state.Dollar c = when (is_label_start c) state.Variable
next state.Variable c = when (is_var_char c) state.Variable
next state.Underscore c = when (c == 58) state.LabelColon
next state.LabelColon c = when (is_label_start c) state.LabelChars
next state.LabelChars c = in_label c
next state.LabelDot c = in_label c
next state.Less c = next_in_quotes state.Less c
next (state.Opened form) c = next_in_quotes (state.Opened form) c
next (state.Emptied form) c = next_in_quotes (state.Emptied form) c
next (state.Inside form) c = next_in_quotes (state.Inside form) c
next (state.Escape form) c = next_in_quotes (state.Escape form) c
next (state.Hex form left n) c = next_in_quotes (state.Hex form left n) c
next state.At c = next_in_tag state.At c
next state.TagLetters c = next_in_tag state.TagLetters c
next state.TagDash c = next_in_tag state.TagDash c
next state.TagPart c = next_in_tag state.TagPart c
next state.Caret c = when (c == 94) (state.Done kinds.Carets)
next (state.Done k) c = None
next s c = next_in_number s c

-- what a token that ends here is
abbrev pub accepts : State → Option Kind
accepts state.Letters = Some kinds.Word
accepts state.Colon = Some kinds.Namespace
accepts state.Local = Some kinds.Name
accepts state.Question = Some kinds.Other
accepts state.Variable = Some kinds.Var
accepts state.LabelChars = Some kinds.Label
accepts state.Less = Some kinds.Other
accepts (state.Emptied form) = Some (quoted_kind form)
accepts state.At = Some kinds.Other
accepts state.TagLetters = Some kinds.Tag
accepts state.TagPart = Some kinds.Tag
accepts (state.Sign k) = Some k
accepts (state.Digits k) = Some (kinds.Number k)
accepts state.Dot = Some kinds.Dot
accepts state.Fraction = Some (kinds.Number number.Decimal)
accepts state.ExponentDigits = Some (kinds.Number number.Double)
accepts state.Caret = Some kinds.Unsupported
accepts (state.Done k) = Some k
accepts _ = None

-- The longest front of the characters that takes the state to one where a token may end: its length, and what it is.
abbrev pub at_least : Option Kind → Option (ℕ × Kind) → Option (ℕ × Kind)
at_least k (Some x) = Some (suc x.0, x.1)
at_least (Some k) None = Some (1, k)
at_least None None = None

-- the same behind a character that leads there
abbrev pub further : (State → Option (ℕ × Kind)) → Option State → Option (ℕ × Kind)
further f None = None
further f (Some s) = at_least (accepts s) (f s)

-- the same of all characters from a state on
abbrev pub longest : State → List ℕ → Option (ℕ × Kind)
longest s [] = None
longest s (c ∷ cs) = further (λ s'. longest s' cs) (next s c)

-- what was found so far, or what is found behind the first n characters
abbrev pub or_later : Option (ℕ × Kind) → ℕ → Option (ℕ × Kind) → Option (ℕ × Kind)
or_later best n None = best
or_later best n (Some x) = Some (n + x.0, x.1)

-- the same with a token that ends here
abbrev pub better : Option (ℕ × Kind) → ℕ → Option Kind → Option (ℕ × Kind)
better best n None = best
better best n (Some k) = Some (n, k)

-- A token has at most two texts: its own or a prefix, and a local part.
pub record Texts : Type 0 where
  pub first : List ℕ
  pub second : List ℕ

-- no characters
abbrev pub no_texts : Texts
no_texts = record { first = []; second = [] }

-- what a character that leads to this state adds to the texts
abbrev pub entered : State → ℕ → Part
entered state.Letters c = part.First c
entered state.Prefix c = part.First c
entered state.PrefixDot c = part.First c
entered state.Local c = part.Second c
entered state.LocalDot c = part.Second c
entered state.Percent c = part.Second c
entered state.PercentDigit c = part.Second c
entered state.Variable c = part.First c
entered state.LabelChars c = part.First c
entered state.LabelDot c = part.First c
entered (state.Inside form) c = part.First c
entered state.TagLetters c = part.First c
entered state.TagDash c = part.First c
entered state.TagPart c = part.First c
entered (state.Sign k) c = part.First c
entered (state.Digits k) c = part.First c
entered state.DigitsDot c = part.First c
entered state.SignDot c = part.First c
entered state.Dot c = part.First c
entered state.Fraction c = part.First c
entered state.Exponent c = part.First c
entered state.ExponentSign c = part.First c
entered state.ExponentDigits c = part.First c
entered _ c = part.Nothing

-- the character that an escape means, once it ends
abbrev pub escaped : State → Part → Part
escaped (state.Inside form) p = p
escaped _ p = part.Nothing

-- the character that a number and one more digit name
abbrev pub hex_part : ℕ → ℕ → Part
hex_part n c = if adds_digit n c && scalar (n * 16 + digit_value c) then part.First (n * 16 + digit_value c) else part.Nothing

-- what a character that leads from one state to another adds
abbrev pub emit : State → State → ℕ → Part
emit (state.Escape form) to c = escaped to (part.First (echar_meaning c))
emit (state.Hex form left n) to c = escaped to (hex_part n c)
emit _ to c = entered to c

-- a character in front of the texts
abbrev pub add : Part → Texts → Texts
add (part.First c) t = record { first = c ∷ t.first; second = t.second }
add (part.Second c) t = record { first = t.first; second = c ∷ t.second }
add part.Nothing t = t

-- and behind them
abbrev pub put : Part → Texts → Texts
put (part.First c) t = record { first = t.first ++ c ∷ []; second = t.second }
put (part.Second c) t = record { first = t.first; second = t.second ++ c ∷ [] }
put part.Nothing t = t

-- the texts of characters that the machine takes
abbrev pub emitting : State → ℕ → (State → Texts) → Option State → Texts
emitting s c f None = no_texts
emitting s c f (Some s') = add (emit s s' c) (f s')

-- the same from a state on
abbrev pub emitted : State → List ℕ → Texts
emitted s [] = no_texts
emitted s (c ∷ cs) = emitting s c (λ s'. emitted s' cs) (next s c)

-- these texts in front of others
abbrev pub in_front : Texts → Texts → Texts
in_front t u = record { first = t.first ++ u.first; second = t.second ++ u.second }

-- the token of a kind with these texts
abbrev pub token_of : Kind → Texts → Token
token_of kinds.Word t = word_of (encode_utf8_all t.first)
token_of kinds.Namespace t = token.Namespace t.first
token_of kinds.Name t = token.Name t.first t.second
token_of kinds.Iri t = token.Iri t.first
token_of kinds.Str t = token.Str t.first
token_of kinds.Quotes t = token.Quotes
token_of kinds.Var t = token.Var t.first
token_of kinds.Label t = token.Label t.first
token_of kinds.Tag t = token.Tag t.first
token_of (kinds.Number k) t = token.Number k t.first
token_of kinds.Open t = token.Open
token_of kinds.Close t = token.Close
token_of kinds.Dot t = token.Dot
token_of kinds.Semicolon t = token.Semicolon
token_of kinds.Comma t = token.Comma
token_of kinds.Carets t = token.Carets
token_of kinds.Star t = token.Star
token_of kinds.Unsupported t = token.Unsupported
token_of kinds.Other t = token.Other

-- whether a token of this kind has a text
abbrev pub has_text : Kind → Bool
has_text kinds.Word = true
has_text kinds.Namespace = true
has_text kinds.Name = true
has_text kinds.Iri = true
has_text kinds.Str = true
has_text kinds.Var = true
has_text kinds.Label = true
has_text kinds.Tag = true
has_text (kinds.Number k) = true
has_text _ = false

-- A prefix that goes on at any of the first n characters doesn't come to its colon.
pub record IsSearched (n : ℕ) (text : List ℕ) : Type 0 where
  pub none : (j : ℕ) → j < n → longest state.Prefix (drop j text) ≡ None

-- whether the characters so far are the front of a prefix
abbrev pub is_named : State → Bool
is_named state.Letters = true
is_named state.Prefix = true
is_named state.PrefixDot = true
is_named _ = false

-- and of nothing else
abbrev pub is_prefix : State → Bool
is_prefix state.Prefix = true
is_prefix state.PrefixDot = true
is_prefix _ = false

-- how far prefixes were searched in vain, once the machine stopped in this state behind so many characters
abbrev pub searched_to : Bool → State → ℕ → ℕ → ℕ
searched_to named s count searched = if named && is_prefix s then count else searched

-- whether a comment goes on behind a character of white space or a comment; none where the character is neither's
abbrev pub in_space : Bool → ℕ → Option Bool
in_space true c = Some (not (is_line_end c))
in_space false c = if is_blank c then Some false else if c == 35 then Some true else None
