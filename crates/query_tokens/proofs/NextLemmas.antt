-- The first token of what is left, and what is left then.
use Rattle.std.proofs.Common.{◌≡◌, ◌≢◌, ◌≤◌, ◌<◌, ◌+◌, ◌-◌, ◌∙◌, refl, sym, ap, subst, ℕ, arith, List, [], ◌∷◌, length, drop, Some}
use Rattle.query_tokens.specs.declared.token.Token.{Token}
use Rattle.query_tokens.specs.declared.token.Token.TheVariants as token
use Rattle.query_tokens.specs.declared.token.Placed.{Placed}
use Rattle.query_tokens.specs.Tokens.{AreTokens, AreTokensLeft, BeginsNone, IsFirstOf, IsRead, Left, byte_count, from_token}
use Rattle.query_tokens.proofs.ReadLemmas.{one_step, bad_step}
use Rattle.query_tokens.proofs.Unique.{one_list}

pub next_token : (left : Left) (here rest : List ℕ) (start after count : ℕ) (t : Token) → here ≡ from_token left.text
    → start + byte_count here ≡ left.start + byte_count left.text → IsRead here t count → rest ≡ drop count here → after + byte_count rest ≡ start + byte_count here
    → IsFirstOf left (Some (record { token = t; start = start })) (record { start = after; text = rest })
next_token left here rest start after count t is placed read behind moved = λ more a.
    one_step (left.start + byte_count left.text) left.text here start count t more is placed read
    (subst (λ (l : List ℕ). AreTokens (left.start + byte_count left.text) l more) behind (subst (λ (n : ℕ). AreTokens n rest more) (moved ∙ placed) a))

pub next_bad : (left : Left) (here rest : List ℕ) (start after : ℕ) → here ≡ from_token left.text → start + byte_count here ≡ left.start + byte_count left.text
    → here ≢ [] → BeginsNone here → rest ≡ [] → IsFirstOf left (Some (record { token = token.Bad; start = start })) (record { start = after; text = rest })
next_bad left here rest start after is placed some none end = λ more a.
    subst (λ (ps : List Placed). AreTokens (left.start + byte_count left.text) left.text (record { token = token.Bad; start = start } ∷ ps))
    (sym (one_list (after + byte_count rest) [] more [] (subst (λ (l : List ℕ). AreTokens (after + byte_count rest) l more) end a) refl))
    (bad_step (left.start + byte_count left.text) left.text here start is placed some none)

pub some_left : (l : List ℕ) → l ≢ [] → 0 < length l
some_left [] h = absurd (h refl)
some_left (x ∷ xs) h = omega arith
