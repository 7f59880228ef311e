-- Whatever is left of a text has a list of tokens.
use Rattle.std.proofs.Common.{◌≡◌, ◌≢◌, ◌≤◌, ◌<◌, ◌+◌, ◌-◌, ◌*◌, ◌∙◌, refl, sym, ap, subst, ℕ, zero, suc, arith, Bool, true, false, ◌==◌, if◌then◌else◌, List, [], ◌∷◌, length, take, drop, length-drop, Option, Some, None}
use Rattle.query_tokens.specs.declared.kind.Kind.{Kind}
use Rattle.query_tokens.specs.declared.token.Token.{Token}
use Rattle.query_tokens.specs.declared.token.Token.TheVariants as token
use Rattle.query_tokens.specs.declared.token.Placed.{Placed}
use Rattle.query_tokens.specs.declared.state.State.TheVariants as state
use Rattle.query_tokens.specs.Scanner.{longest, token_of, emitted}
use Rattle.query_tokens.specs.Tokens.{AreTokens, AreTokensLeft, Left, byte_count, from_token, behind_space, is_blank, is_line_end}
use Rattle.query_tokens.proofs.Longest.{is_read, none_first}
use Rattle.query_tokens.proofs.PlaceLemmas.{in_two}
use Rattle.query_tokens.proofs.ReadLemmas.{one_step, bad_step, read_lengths}

-- the rest is an end of the text
abbrev End : List ℕ → List ℕ → Type 0
End text rest = (k : ℕ) × (rest ≡ drop k text)

either : (P : List ℕ → Type 0) (b : Bool) (x y : List ℕ) → P x → P y → P (if b then x else y)
either P true x y p q = p
either P false x y p q = q

later : (c : ℕ) (cs rest : List ℕ) → End cs rest → End (c ∷ cs) rest
later c cs rest w = (suc w.0, w.1)

-- so is what stands behind white space and comments
space_end : (b : Bool) (text : List ℕ) → End text (behind_space b text)
space_end false [] = (0, refl)
space_end true [] = (0, refl)
space_end false (c ∷ cs) =
    either (End (c ∷ cs)) (is_blank c) (behind_space false cs) _ (later c cs (behind_space false cs) (space_end false cs))
    (either (End (c ∷ cs)) (c == 35) (behind_space true cs) (c ∷ cs) (later c cs (behind_space true cs) (space_end true cs)) (0, refl))
space_end true (c ∷ cs) =
    either (End (c ∷ cs)) (is_line_end c) (behind_space false cs) (behind_space true cs) (later c cs (behind_space false cs) (space_end false cs))
    (later c cs (behind_space true cs) (space_end true cs))

-- and no longer than the text
pub space_shorter : (text : List ℕ) → (length (from_token text) ≤ length text) × (byte_count (from_token text) ≤ byte_count text)
space_shorter text =
    let w = space_end false text in
    let two = in_two w.0 text in
    let bytes : byte_count (from_token text) ≡ byte_count (drop w.0 text) = ap byte_count w.1 in
    let long : length (from_token text) ≡ length text - w.0 = ap length w.1 ∙ length-drop w.0 text in
    (omega arith, omega arith)

abbrev Have : ℕ → List ℕ → Type 0
Have size text = (ps : List Placed) × AreTokens size text ps

-- by what the machine finds at the next token
by_first : (size : ℕ) (text here : List ℕ) (o : Option (ℕ × Kind)) → longest state.Start here ≡ o → here ≡ from_token text → here ≢ [] → byte_count here ≤ size
    → ((rest : List ℕ) → length rest < length here → byte_count rest ≤ size → Have size rest) → Have size text
by_first size text here None e is some fits more =
    (record { token = token.Bad; start = size - byte_count here } ∷ [], bad_step size text here (size - byte_count here) is (omega arith) some (none_first here e))
by_first size text here (Some z) e is some fits more =
    let t : Token = token_of z.1 (emitted state.Start (take z.0 here)) in
    let r = is_read here z e in
    let l = read_lengths here t z.0 r in
    let two = in_two z.0 here in
    let w = more (drop z.0 here) l.1 (omega arith) in
    (record { token = t; start = size - byte_count here } ∷ w.0, one_step size text here (size - byte_count here) z.0 t w.0 is (omega arith) r w.1)

by_here : (size : ℕ) (text here : List ℕ) → here ≡ from_token text → byte_count here ≤ size
    → ((rest : List ℕ) → length rest < length here → byte_count rest ≤ size → Have size rest) → Have size text
by_here size text [] is fits more = ([], sym is)
by_here size text (c ∷ cs) is fits more = by_first size text (c ∷ cs) (longest state.Start (c ∷ cs)) refl is (λ e. cc) fits more

have_tokens : (n size : ℕ) (text : List ℕ) → length text ≤ n → byte_count text ≤ size → Have size text
have_tokens zero size [] h k = ([], refl)
have_tokens zero size (c ∷ cs) h k = absurd (omega arith)
have_tokens (suc n) size text h k =
    let s = space_shorter text in
    by_here size text (from_token text) refl (omega arith) (λ rest less fits. have_tokens n size rest (omega arith) fits)

pub each_left : (left : Left) → (ps : List Placed) × AreTokensLeft left ps
each_left left = have_tokens (length left.text) (left.start + byte_count left.text) left.text (omega arith) (omega arith)
