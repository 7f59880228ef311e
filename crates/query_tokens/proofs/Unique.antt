-- A text has one list of tokens.
use Rattle.std.proofs.Common.{◌≡◌, ◌≤◌, ◌+◌, refl, ◌∙◌, sym, ap, subst, ℕ, arith, List, [], ◌∷◌, ◌++◌, length, Option, Some, ◌⊎◌, inl, inr}
use Rattle.query_tokens.specs.declared.token.Token.{Token}
use Rattle.query_tokens.specs.declared.token.Placed.{Placed}
use Rattle.query_tokens.specs.declared.state.State.{State}
use Rattle.query_tokens.specs.declared.state.State.TheVariants as state
use Rattle.query_tokens.specs.Lexemes.{Lexeme, spelling, value}
use Rattle.query_tokens.specs.Scanner.{next, accepts, token_of}
use Rattle.query_tokens.specs.Tokens.{IsFirst, EndsBadly, AreTokens, from_token, byte_count}
use Rattle.query_tokens.proofs.Tails.{Tail, tail_chars, tail_kind, tail_texts, kind, texts}
use Rattle.query_tokens.proofs.Fore.{Forward, fore}
use Rattle.query_tokens.proofs.Longest.{has_char, emitted_texts, valued}

same_some : {A : Type 0} (x y : A) (o : Option A) → o ≡ Some x → o ≡ Some y → x ≡ y
same_some x y o e f = cc

abbrev Ahead : (s : State) → Tail s → List ℕ → Type 0
Ahead s x cs = Forward s (tail_kind s x) (tail_texts s x) cs

-- tokens of the same characters are of one kind
same_kind : (cs : List ℕ) (s : State) (x y : Tail s) → tail_chars s x ≡ cs → tail_chars s y ≡ cs → tail_kind s x ≡ tail_kind s y
same_kind [] s x y e f =
    same_some (tail_kind s x) (tail_kind s y) (accepts s) (subst (Ahead s x) e (fore s x)).0 (subst (Ahead s y) f (fore s y)).0
same_kind (c ∷ cs) s x y e f =
    let v = subst (Ahead s x) e (fore s x) in
    let w = subst (Ahead s y) f (fore s y) in
    let at : (z : Tail v.0) × (tail_chars v.0 z ≡ cs) × (tail_kind v.0 z ≡ tail_kind s y)
    = subst (λ (t : State). (z : Tail t) × (tail_chars t z ≡ cs) × (tail_kind t z ≡ tail_kind s y)) (same_some w.0 v.0 (next s c) w.2 v.2) (w.1, w.3, w.4) in
    sym v.4 ∙ same_kind cs v.0 v.1 at.0 v.3 at.1 ∙ at.2

-- and have one value
same_value : (l m : Lexeme) → spelling l ≡ spelling m → value l ≡ value m
same_value l m e =
    sym (valued l) ∙ ap (λ k. token_of k (texts l)) (same_kind (spelling m) state.Start l m e refl)
    ∙ ap (token_of (kind m)) (sym (emitted_texts (spelling m) state.Start l e) ∙ emitted_texts (spelling m) state.Start m refl) ∙ valued m

-- fronts of one length of one text are one, and so are the rests
same_front : (a b rest more : List ℕ) → a ++ rest ≡ b ++ more → length a ≡ length b → (a ≡ b) × (rest ≡ more)
same_front [] [] rest more e h = (refl, e)
same_front [] (y ∷ b) rest more e h = absurd (omega arith)
same_front (x ∷ a) [] rest more e h = absurd (omega arith)
same_front (x ∷ a) (y ∷ b) rest more e h =
    let head : x ≡ y = cc in
    let back : a ++ rest ≡ b ++ more = cc in
    let i = same_front a b rest more back (omega arith) in
    (ap (λ (d : ℕ). d ∷ a) head ∙ ap (λ (l : List ℕ). y ∷ l) i.0, i.1)

-- the first token is one, by its characters
one_first : (text : List ℕ) (l m : Lexeme) (rest more : List ℕ) → IsFirst text l rest → IsFirst text m more → (spelling l ≡ spelling m) × (rest ≡ more)
one_first text l m rest more f g =
    let up : length (spelling m) ≤ length (spelling l) = f.longest m more g.split in
    let down : length (spelling l) ≤ length (spelling m) = g.longest l rest f.split in
    same_front (spelling l) (spelling m) rest more (sym f.split ∙ g.split) (omega arith)

nothing_left : (text : List ℕ) (l : Lexeme) (rest : List ℕ) → text ≡ [] → IsFirst text l rest → ⊥
nothing_left text l rest e f =
    let c = has_char l in
    let none : length ((c.0 ∷ c.1) ++ rest) ≡ 0 = ap length (ap (λ (s : List ℕ). s ++ rest) (sym c.2) ∙ sym f.split ∙ e) in
    absurd (omega arith)

same_placed : (x y : Placed) → x.token ≡ y.token → x.start ≡ y.start → x ≡ y
same_placed x y e f =
    ap (λ (t : Token). record { token = t; start = x.start }) e ∙ ap (λ (n : ℕ). record { token = y.token; start = n }) f

-- a list of tokens that begins with x, of what stands from here on
abbrev Rest : ℕ → List ℕ → Placed → List Placed → Type 0
Rest size here x xs = EndsBadly here x xs ⊎ ((lexeme : Lexeme) × (rest : List ℕ) × IsFirst here lexeme rest × (x.token ≡ value lexeme) × AreTokens size rest xs)

none_left : (size : ℕ) (here : List ℕ) (x : Placed) (xs : List Placed) → here ≡ [] → Rest size here x xs → ⊥
none_left size here x xs e (inl b) = b.left e
none_left size here x xs e (inr t) = nothing_left here t.0 t.1 e t.2

same_rest : (size : ℕ) (here : List ℕ) (x y : Placed) (xs ys : List Placed) → ((rest : List ℕ) → AreTokens size rest xs → AreTokens size rest ys → xs ≡ ys)
    → Rest size here x xs → Rest size here y ys → (x.token ≡ y.token) × (xs ≡ ys)
same_rest size here x y xs ys ih (inl a) (inl b) = (a.bad ∙ sym b.bad, a.last ∙ sym b.last)
same_rest size here x y xs ys ih (inl a) (inr u) = absurd (a.none u.0 u.1 u.2.split)
same_rest size here x y xs ys ih (inr t) (inl b) = absurd (b.none t.0 t.1 t.2.split)
same_rest size here x y xs ys ih (inr t) (inr u) =
    let one = one_first here t.0 u.0 t.1 u.1 t.2 u.2 in
    (t.3 ∙ same_value t.0 u.0 one.0 ∙ sym u.3, ih u.1 (subst (λ (l : List ℕ). AreTokens size l xs) one.1 t.4) u.4)

pub one_list : (size : ℕ) (text : List ℕ) (xs ys : List Placed) → AreTokens size text xs → AreTokens size text ys → xs ≡ ys
one_list size text [] [] a b = refl
one_list size text [] (y ∷ ys) a b = absurd (none_left size (from_token text) y ys a b.1)
one_list size text (x ∷ xs) [] a b = absurd (none_left size (from_token text) x xs b a.1)
one_list size text (x ∷ xs) (y ∷ ys) a b =
    let same = same_rest size (from_token text) x y xs ys (λ rest f g. one_list size rest xs ys f g) a.1 b.1 in
    let p : x.start + byte_count (from_token text) ≡ size = a.0 in
    let q : y.start + byte_count (from_token text) ≡ size = b.0 in
    let start : x.start ≡ y.start = omega arith in
    ap (λ (z : Placed). z ∷ xs) (same_placed x y same.0 start) ∙ ap (λ (l : List Placed). y ∷ l) same.1
