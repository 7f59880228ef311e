-- Worked cases of the definitions, by computation.
use Rattle.std.proofs.Common.{◌≡◌, refl, [], ◌∷◌, codes, Some, None}
use lib.Utf8.{encode}
use Rattle.query_tokens.specs.declared.token.Number.TheVariants as number
use Rattle.query_tokens.specs.declared.token.Token.TheVariants as token
use Rattle.query_tokens.specs.declared.kind.Kind.TheVariants as kinds
use Rattle.query_tokens.specs.Lexemes.{Lexeme, Name, Number, Percent, Escaped, Decimal, spelling, value}
use Rattle.query_tokens.specs.Words.{word_of}
use Rattle.query_tokens.specs.Tokens.{IsRead, BeginsNone, AreTokens}
use Rattle.query_tokens.proofs.Cases.{at}
use Rattle.query_tokens.proofs.Longest.{is_read, none_first}
use Rattle.query_tokens.proofs.ReadLemmas.{one_step, bad_step}

-- words are taken in any case of letters, but `a`, `true` and `false`
select_word : word_of (codes "sElEcT") ≡ token.Select
select_word = refl

no_type_word : word_of (codes "A") ≡ token.Other
no_type_word = refl

-- :%41\~ is a prefixed name, and its local part is %41~
local_name : Lexeme
local_name = Name None (Some (record { first = Percent (at 52 refl) (at 49 refl); more = Some (record { inner = []; last = Escaped (at 126 refl) }) }))

local_spelled : spelling local_name ≡ codes ":%41\\~"
unfolding local_name
local_spelled = refl

local_meant : value local_name ≡ token.Name [] (codes "%41~")
unfolding local_name
local_meant = refl

-- -.5 is a decimal with its sign
negative : value (Number (Some (at 45 refl)) (Decimal [] (at 53 refl) [])) ≡ token.Number number.Decimal (codes "-.5")
negative = refl

-- a name goes no further than its last character that is no dot
name_before_dots : IsRead (codes "a:b..") (token.Name (codes "a") (codes "b")) 3
name_before_dots = is_read (codes "a:b..") (3, kinds.Name) refl

-- an escape is replaced, one of a surrogate is none
escape_replaced : IsRead (codes "<\\u0041>") (token.Iri (codes "A")) 8
escape_replaced = is_read (codes "<\\u0041>") (8, kinds.Iri) refl

surrogate_in_an_iri : IsRead (codes "<\\uD800>") token.Other 1
surrogate_in_an_iri = is_read (codes "<\\uD800>") (1, kinds.Other) refl

surrogate_in_a_string : BeginsNone (codes "'\\uD800'")
surrogate_in_a_string = none_first (codes "'\\uD800'") refl

-- three quotes in succession
quotes : IsRead (codes "'''a'''") token.Quotes 3
quotes = is_read (codes "'''a'''") (3, kinds.Quotes) refl

-- white space and a comment, which CR ends
spaced : AreTokens 7 (codes " a# b\r.") (record { token = token.A; start = 1 } ∷ record { token = token.Dot; start = 6 } ∷ [])
unfolding encode
spaced =
    one_step 7 (codes " a# b\r.") (codes "a# b\r.") 1 1 token.A _ refl refl (is_read (codes "a# b\r.") (1, kinds.Word) refl)
    (one_step 7 (codes "# b\r.") (codes ".") 6 1 token.Dot [] refl refl (is_read (codes ".") (1, kinds.Dot) refl) refl)

-- a place in bytes: the euro sign has three
bad_place : AreTokens 4 (42 ∷ 8364 ∷ []) (record { token = token.Star; start = 0 } ∷ record { token = token.Bad; start = 1 } ∷ [])
unfolding encode
bad_place =
    one_step 4 (42 ∷ 8364 ∷ []) (42 ∷ 8364 ∷ []) 0 1 token.Star _ refl refl (is_read (42 ∷ 8364 ∷ []) (1, kinds.Star) refl)
    (bad_step 4 (8364 ∷ []) (8364 ∷ []) 1 refl refl (λ e. cc) (none_first (8364 ∷ []) refl))
