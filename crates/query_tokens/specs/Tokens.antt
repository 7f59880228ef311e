-- The tokens of a text.
use Rattle.std.specs.Prelude.{◌≡◌, ◌≢◌, ◌≤◌, ◌+◌, ◌⊎◌, ℕ, Bool, true, false, ◌==◌, List, [], ◌∷◌, ◌++◌, length, drop, Option, Some, None, if◌then◌else◌, codes, encode_utf8_all}
use Rattle.rdf_term.specs.Classes.{is_one_of}
use Rattle.query_tokens.specs.declared.token.Placed.{Placed}
use Rattle.query_tokens.specs.declared.token.Token.{Token}
use Rattle.query_tokens.specs.declared.token.Token.TheVariants as token
use Rattle.query_tokens.specs.Lexemes.{Lexeme, spelling, value}

-- The token is the longest one with which the text begins, and rest is what stands behind it.
pub record IsFirst (text : List ℕ) (lexeme : Lexeme) (rest : List ℕ) : Type 0 where
  pub split : text ≡ spelling lexeme ++ rest
  pub longest : (other : Lexeme) (more : List ℕ) → text ≡ spelling other ++ more → length (spelling other) ≤ length (spelling lexeme)

-- The longest token with which the text begins has this value and so many characters.
pub record IsRead (text : List ℕ) (t : Token) (count : ℕ) : Type 0 where
  pub lexeme : Lexeme
  pub first : IsFirst text lexeme (drop count text)
  pub meant : t ≡ value lexeme
  pub counted : count ≡ length (spelling lexeme)

-- No token begins the text.
abbrev pub BeginsNone : List ℕ → Type 0
BeginsNone text = (lexeme : Lexeme) (rest : List ℕ) → text ≡ spelling lexeme ++ rest → ⊥

-- CR and LF, where a comment ends
abbrev pub is_line_end : ℕ → Bool
is_line_end = is_one_of (codes "\n\r")

-- white space: space, tab, CR and LF
abbrev pub is_blank : ℕ → Bool
is_blank = is_one_of (codes " \t\n\r")

-- What stands behind white space and comments. A comment runs from # to CR, LF or the end.
abbrev pub behind_space : Bool → List ℕ → List ℕ
behind_space in_comment [] = []
behind_space false (c ∷ cs) = if is_blank c then behind_space false cs else if c == 35 then behind_space true cs else c ∷ cs
behind_space true (c ∷ cs) = if is_line_end c then behind_space false cs else behind_space true cs

-- the text from the next token on
abbrev pub from_token : List ℕ → List ℕ
from_token text = behind_space false text

-- how many bytes the characters have in UTF-8
abbrev pub byte_count : List ℕ → ℕ
byte_count cs = length (encode_utf8_all cs)

-- No token begins here: the list ends with `Bad`.
pub record EndsBadly (here : List ℕ) (x : Placed) (xs : List Placed) : Type 0 where
  pub left : here ≢ []
  pub none : BeginsNone here
  pub bad : x.token ≡ token.Bad
  pub last : xs ≡ []

-- These are the tokens of the characters that are left of a text of so many bytes: each is the longest one that begins behind the white space
-- and comments, with its value and the number of bytes before it.
abbrev pub AreTokens : ℕ → List ℕ → List Placed → Type 0
AreTokens size text [] = from_token text ≡ []
AreTokens size text (x ∷ xs) =
    (x.start + byte_count (from_token text) ≡ size)
    × (EndsBadly (from_token text) x xs
    ⊎ ((lexeme : Lexeme) × (rest : List ℕ) × IsFirst (from_token text) lexeme rest × (x.token ≡ value lexeme) × AreTokens size rest xs))

-- What is left of a text that is read: how many bytes were read, and the characters behind them.
pub record Left : Type 0 where
  pub start : ℕ
  pub text : List ℕ

-- These are the tokens of what is left.
abbrev pub AreTokensLeft : Left → List Placed → Type 0
AreTokensLeft left ps = AreTokens (left.start + byte_count left.text) left.text ps

-- The first token of what is left, and what is left then: with the token in front, its tokens are those that were left before.
abbrev pub IsFirstOf : Left → Option Placed → Left → Type 0
IsFirstOf left None rest = AreTokensLeft left []
IsFirstOf left (Some p) rest = (more : List Placed) → AreTokensLeft rest more → AreTokensLeft left (p ∷ more)
