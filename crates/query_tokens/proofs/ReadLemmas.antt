-- One step of the reading of a text.
use Rattle.std.proofs.Common.{◌≡◌, ◌≢◌, ◌≤◌, ◌<◌, ◌+◌, ◌∙◌, refl, sym, ap, subst, ℕ, arith, List, [], ◌∷◌, length, length-append, drop, take, inl, inr}
use Rattle.query_tokens.specs.declared.token.Token.{Token}
use Rattle.query_tokens.specs.declared.token.Token.TheVariants as token
use Rattle.query_tokens.specs.declared.token.Placed.{Placed}
use Rattle.query_tokens.specs.Lexemes.{spelling}
use Rattle.query_tokens.specs.Tokens.{AreTokens, IsRead, IsFirst, BeginsNone, EndsBadly, byte_count, from_token}
use Rattle.query_tokens.proofs.Longest.{has_char}
use Rattle.query_tokens.proofs.PlaceLemmas.{in_two}

pub one_step : (size : ℕ) (rest here : List ℕ) (start count : ℕ) (t : Token) (more : List Placed) → here ≡ from_token rest → start + byte_count here ≡ size
    → IsRead here t count → AreTokens size (drop count here) more → AreTokens size rest (record { token = t; start = start } ∷ more)
one_step size rest here start count t more e p r a = (
  ap (λ l. start + byte_count l) (sym e) ∙ p,
  inr (r.lexeme, drop count here, subst (λ l. IsFirst l r.lexeme (drop count here)) e r.first, r.meant, a),
)

pub bad_step : (size : ℕ) (rest here : List ℕ) (start : ℕ) → here ≡ from_token rest → start + byte_count here ≡ size
    → here ≢ [] → BeginsNone here → AreTokens size rest (record { token = token.Bad; start = start } ∷ [])
bad_step size rest here start e p n b = (
  ap (λ l. start + byte_count l) (sym e) ∙ p,
  inl (subst (λ l. EndsBadly l (record { token = token.Bad; start = start }) []) e (record { left = n; none = b; bad = refl; last = refl })),
)

-- the texts of a reading are shorter than the text
abbrev Lengths : List ℕ → ℕ → Type 0
Lengths here count = (count ≤ length here) × (length (drop count here) < length here) × (length here ≡ count + length (drop count here))

pub read_lengths : (here : List ℕ) (t : Token) (count : ℕ) → IsRead here t count → Lengths here count
read_lengths here t count r =
    let c = has_char r.lexeme in
    let long : length (spelling r.lexeme) ≡ length (c.0 ∷ c.1) = ap length c.2 in
    let whole : length here ≡ length (spelling r.lexeme) + length (drop count here) = ap length r.first.split ∙ length-append (spelling r.lexeme) (drop count here) in
    let n = r.counted in
    (omega arith, omega arith, omega arith)

-- what stands before a place and the bytes up to it
pub moved : (n : ℕ) (rest front here : List ℕ) (start size : ℕ) → front ≡ take n rest → here ≡ drop n rest → start + byte_count rest ≡ size
    → start + byte_count front + byte_count here ≡ size
moved n rest front here start size f h p =
    let two = in_two n rest in
    let f' : byte_count front ≡ byte_count (take n rest) = ap byte_count f in
    let h' : byte_count here ≡ byte_count (drop n rest) = ap byte_count h in
    omega arith
