-- What holds of the tokens of a text.
use Rattle.std.specs.Prelude.{◌≡◌, ℕ, List, [], ◌∷◌, ◌++◌, Bool, true, IsTrue, ◌==◌, not}
use Rattle.query_tokens.specs.declared.token.Placed.{Placed}
use Rattle.query_tokens.specs.Classes.{closing}
use Rattle.query_tokens.specs.Lexemes.{Lexeme, Between, Carets, spelling}
use Rattle.query_tokens.specs.Tokens.{IsFirst, AreTokens, Left, AreTokensLeft}

-- whatever is left of a text has a list of tokens
abbrev pub EachHasTokens : Type 0
EachHasTokens = (left : Left) → (ps : List Placed) × AreTokensLeft left ps

-- a text has at most one list of tokens
abbrev pub OneTokenList : Type 0
OneTokenList = (size : ℕ) (text : List ℕ) (xs ys : List Placed) → AreTokens size text xs → AreTokens size text ys → xs ≡ ys

-- what stands behind a token parts it from the next one: nothing, a space, behind an IRI or a string any character but its closing
-- mark, behind ^^ any character
abbrev pub is_parted : Lexeme → List ℕ → Bool
is_parted l [] = true
is_parted (Between form ps) (c ∷ cs) = not (c == closing form)
is_parted Carets (c ∷ cs) = true
is_parted l (c ∷ cs) = c == 32

-- a token that is parted from what stands behind it is read as itself
abbrev pub PartedTokens : Type 0
PartedTokens = (lexeme : Lexeme) (rest : List ℕ) → IsTrue (is_parted lexeme rest) → IsFirst (spelling lexeme ++ rest) lexeme rest
