-- The tokens of a text that is put together token by token.
use Rattle.std.proofs.Common.{◌≡◌, ◌≤◌, ◌+◌, ◌-◌, ℕ, Bool, true, ◌==◌, List, [], ◌∷◌, ◌++◌, refl, ◌∙◌, sym, ap, subst, length, length-append, arith, inr, encode_utf8_all}
use Rattle.std.proofs.lemmas.Str.{encodes-append}
use Rattle.query_tokens.specs.declared.token.Placed.{Placed}
use Rattle.query_tokens.specs.declared.token.Token.{Token}
use Rattle.query_tokens.specs.Laws.{PartedTokens, is_parted}
use Rattle.query_tokens.specs.Lexemes.{Lexeme, spelling, value}
use Rattle.query_tokens.specs.Tokens.{IsFirst, AreTokens, from_token, byte_count}
use Rattle.query_grammar.specs.Answers.{tokens_of}

-- The text has these tokens, wherever it stands in another one.
abbrev pub Lexes : List ℕ → List Token → Type 0
Lexes text ts = (size : ℕ) → byte_count text ≤ size → (ps : List Placed) × AreTokens size text ps × (tokens_of ps ≡ ts)

-- what may stand behind any token: nothing, or a space
abbrev pub is_end : List ℕ → Bool
is_end [] = true
is_end (c ∷ cs) = c == 32

pub nothing_lexes : Lexes [] []
nothing_lexes = λ size h. ([], refl, refl)

behind : (size : ℕ) (text : List ℕ) (ps : List Placed) → AreTokens size text ps → AreTokens size (32 ∷ text) ps
behind size text [] h = h
behind size text (p ∷ ps) h = h

bytes-append : (a b : List ℕ) → byte_count (a ++ b) ≡ byte_count a + byte_count b
bytes-append a b = ap length (encodes-append a b) ∙ length-append (encode_utf8_all a) (encode_utf8_all b)

pub space_lexes : (text : List ℕ) (ts : List Token) → Lexes text ts → Lexes (32 ∷ text) ts
space_lexes text ts h = λ size k.
    let more : byte_count (32 ∷ text) ≡ byte_count (32 ∷ []) + byte_count text = bytes-append (32 ∷ []) text in
    let w = h size (omega arith) in
    (w.0, behind size text w.0 w.1, w.2)

pub lexeme_lexes : PartedTokens → (l : Lexeme) (text rest : List ℕ) (ts : List Token) → spelling l ++ rest ≡ text → from_token text ≡ text
    → is_parted l rest ≡ true → Lexes rest ts → Lexes text (value l ∷ ts)
lexeme_lexes parted l text rest ts e f p h = λ size k.
    let more : byte_count text ≡ byte_count (spelling l) + byte_count rest = sym (ap byte_count e) ∙ bytes-append (spelling l) rest in
    let w = h size (omega arith) in
    let starts : (size - byte_count (from_token text)) + byte_count (from_token text) ≡ size = omega (arith, ap byte_count f) in
    let first : IsFirst (from_token text) l rest = subst (λ t. IsFirst t l rest) (e ∙ sym f) (parted l rest p) in
    let here : Placed = record { token = value l; start = size - byte_count (from_token text) } in
    (here ∷ w.0, (starts, inr (l, rest, first, refl, w.1)), ap (λ us. value l ∷ us) w.2)
