-- A token before a character that doesn't continue it is read as that token.
use Rattle.std.proofs.Common.{◌≡◌, ◌≤◌, ◌<◌, ◌+◌, length-append, refl, ◌∙◌, sym, ap, subst, ℕ, arith, Bool, true, false, IsTrue, ◌==◌, not, ◌*◌, if◌then◌else◌, List, [], ◌∷◌, ◌++◌, length, Option, Some, None}
use Rattle.std.specs.Char.{digit_value}
use lib.Utf8.{scalar}
use Rattle.query_tokens.specs.declared.kind.Kind.{Kind}
use Rattle.query_tokens.specs.declared.kind.Kind.TheVariants as kinds
use Rattle.query_tokens.specs.declared.kind.Quoted.{Quoted}
use Rattle.query_tokens.specs.declared.kind.Quoted.TheVariants as quoted
use Rattle.query_tokens.specs.declared.state.State.{State}
use Rattle.query_tokens.specs.declared.state.State.TheVariants as state
use Rattle.query_tokens.specs.Classes.{closing, is_raw, is_short_escape}
use Rattle.query_tokens.specs.Lexemes.{Lexeme, Word, Name, Between, DoubleQuotes, SingleQuotes, Var, Label, Tag, Number, Mark, Carets, Piece, pieces, spelling}
use Rattle.query_tokens.specs.Scanner.{next, accepts, quoted_kind, in_quotes, adds_digit}
use Rattle.query_tokens.specs.Tokens.{IsFirst}
use Rattle.query_tokens.specs.Laws.{is_parted}
use Rattle.query_tokens.proofs.Cases.{same_char, else_is}
use Rattle.query_tokens.proofs.Tails.{Tail, tail_chars, tail_kind, tail_texts, AText}
use Rattle.query_tokens.proofs.Fore.{Forward, fore}

-- where characters lead
abbrev onward : (State → Option State) → Option State → Option State
onward f None = None
onward f (Some s) = f s

abbrev run : State → List ℕ → Option State
run s [] = Some s
run s (c ∷ cs) = onward (λ s'. run s' cs) (next s c)

abbrev Ahead : (s : State) → Tail s → List ℕ → Type 0
Ahead s x cs = Forward s (tail_kind s x) (tail_texts s x) cs

-- what is left of a token leads to a state where it may end
abbrev Ends : State → List ℕ → Kind → Type 0
Ends s cs k = (s' : State) × (run s cs ≡ Some s') × (accepts s' ≡ Some k)

ends_at : (cs : List ℕ) (s : State) (x : Tail s) → tail_chars s x ≡ cs → Ends s cs (tail_kind s x)
ends_at [] s x e = (s, refl, (subst (Ahead s x) e (fore s x)).0)
ends_at (c ∷ cs) s x e =
    let w = subst (Ahead s x) e (fore s x) in
    let i = ends_at cs w.0 w.1 w.3 in
    (i.0, ap (onward (λ s'. run s' cs)) w.2 ∙ i.1, i.2 ∙ ap Some w.4)

same_some : {A : Type 0} (x y : A) (o : Option A) → o ≡ Some x → o ≡ Some y → x ≡ y
same_some x y o e f = cc

differ : (o : Option State) (y : State) → o ≡ None → o ≡ Some y → ⊥
differ o y n e = cc

-- no token goes on where the state doesn't
no_longer : (cs : List ℕ) (s to : State) (y : Tail s) (c : ℕ) (more : List ℕ) → run s cs ≡ Some to → next to c ≡ None → tail_chars s y ≡ cs ++ c ∷ more → ⊥
no_longer [] s to y c more r n e =
    let w = subst (Ahead s y) e (fore s y) in
    let same : s ≡ to = same_some s to (run s []) refl r in
    differ (next s c) w.0 (subst (λ t. next t c ≡ None) (sym same) n) w.2
no_longer (d ∷ cs) s to y c more r n e =
    let w = subst (Ahead s y) e (fore s y) in
    no_longer cs w.0 to w.1 c more (sym (ap (onward (λ s'. run s' cs)) w.2) ∙ r) n w.3

-- a front of a text that is longer than another front is that one and more
longer : (a b rest more : List ℕ) → a ++ rest ≡ b ++ more → length b < length a → (c : ℕ) × (cs : List ℕ) × (a ≡ b ++ c ∷ cs) × (c ∷ cs ++ rest ≡ more)
longer [] b rest more e h = absurd (omega arith)
longer (x ∷ a) [] rest more e h = (x, a, refl, e)
longer (x ∷ a) (y ∷ b) rest more e h =
    let head : x ≡ y = cc in
    let back : a ++ rest ≡ b ++ more = cc in
    let w = longer a b rest more back (omega arith) in
    (w.0, w.1, ap (λ (d : ℕ). d ∷ a) head ∙ ap (λ (l : List ℕ). y ∷ l) w.2, w.3)

first_of : (c d : ℕ) (l m : List ℕ) → c ∷ l ≡ d ∷ m → c ≡ d
first_of c d l m e = cc

not_less : (a b : ℕ) → (b < a → ⊥) → a ≤ b
not_less a b h = omega arith

parted : (l : Lexeme) (c : ℕ) (more : List ℕ) (to : State) → run state.Start (spelling l) ≡ Some to → next to c ≡ None → IsFirst (spelling l ++ c ∷ more) l (c ∷ more)
parted l c more to r n = record {
  split = refl;
  longest = λ other rest h. not_less (length (spelling other)) (length (spelling l)) (λ g. too_long other rest h g);
} where
  too_long : (other : Lexeme) (rest : List ℕ) → spelling l ++ c ∷ more ≡ spelling other ++ rest → length (spelling l) < length (spelling other) → ⊥
  too_long other rest h g =
      let w = longer (spelling other) (spelling l) rest (c ∷ more) (sym h) g in
      let same = first_of w.0 c (w.1 ++ rest) more w.3 in
      no_longer (spelling l) state.Start to other c w.1 r n (w.2 ∙ ap (λ (d : ℕ). spelling l ++ d ∷ w.1) same)

alone : (l : Lexeme) → IsFirst (spelling l ++ []) l []
alone l = record {
  split = refl;
  longest = λ other rest h. (let s : length (spelling l) + length {A = ℕ} [] ≡ length (spelling other) + length rest
      = sym (length-append (spelling l) []) ∙ ap length h ∙ length-append (spelling other) rest in omega arith);
}

-- where a token may end, none goes on with a space
stops : (s : State) (k : Kind) → accepts s ≡ Some k → next s 32 ≡ None
stops state.Letters k h = refl
stops state.Colon k h = refl
stops state.Local k h = refl
stops state.Question k h = refl
stops state.Variable k h = refl
stops state.LabelChars k h = refl
stops state.Less k h = refl
stops (state.Emptied quoted.Iri) k h = refl
stops (state.Emptied quoted.Double) k h = refl
stops (state.Emptied quoted.Single) k h = refl
stops state.At k h = refl
stops state.TagLetters k h = refl
stops state.TagPart k h = refl
stops (state.Sign j) k h = refl
stops (state.Digits n) k h = refl
stops state.Dot k h = refl
stops state.Fraction k h = refl
stops state.ExponentDigits k h = refl
stops state.Caret k h = refl
stops (state.Done j) k h = refl
stops s k h = cc

spaced : (l : Lexeme) (c : ℕ) (more : List ℕ) → (c == 32) ≡ true → IsFirst (spelling l ++ c ∷ more) l (c ∷ more)
spaced l c more h =
    let e = ends_at (spelling l) state.Start l refl in
    parted l c more e.0 e.1 (ap (next e.0) (same_char c 32 h) ∙ stops e.0 _ e.2)

-- the states between two marks, and behind them
abbrev Within : Quoted → State → Type 0
Within form state.Less = form ≡ quoted.Iri
Within form (state.Opened f) = f ≡ form
Within form (state.Emptied f) = f ≡ form
Within form (state.Inside f) = f ≡ form
Within form (state.Escape f) = f ≡ form
Within form (state.Hex f left n) = f ≡ form
Within form (state.Done k) = Unit {0}
Within form _ = ⊥

abbrev AllWithin : Quoted → Option State → Type 0
AllWithin form None = Unit {0}
AllWithin form (Some s) = Within form s

test : (P : Option State → Type 0) (b : Bool) (x y : Option State) → P x → P y → P (if b then x else y)
test P true x y f g = f
test P false x y f g = g

quotes_within : (form f : Quoted) (c : ℕ) → f ≡ form → AllWithin form (in_quotes f c)
quotes_within form f c w = test (AllWithin form) (c == 92) _ _ w (test (AllWithin form) (is_raw f c) _ _ w tt)

within_next : (form : Quoted) (s : State) (c : ℕ) → Within form s → AllWithin form (next s c)
within_next form state.Less c w = test (AllWithin form) (c == 62) _ _ tt (quotes_within form quoted.Iri c (sym w))
within_next form (state.Opened f) c w = test (AllWithin form) (c == closing f) _ _ w (quotes_within form f c w)
within_next form (state.Emptied f) c w = test (AllWithin form) (c == closing f) _ _ tt tt
within_next form (state.Inside f) c w = test (AllWithin form) (c == closing f) _ _ tt (quotes_within form f c w)
within_next form (state.Escape f) c w = test (AllWithin form) (c == 117) _ _ w (test (AllWithin form) (c == 85) _ _ w (test (AllWithin form) (is_short_escape f c) _ _ w tt))
within_next form (state.Hex f left n) c w =
    test (AllWithin form) (adds_digit n c) _ _
    (test (AllWithin form) (left == 0) _ _ (test (AllWithin form) (scalar (n * 16 + digit_value c)) _ _ w tt) w) tt
within_next form (state.Done k) c w = tt
within_next form s c w = absurd w

ends_within : (form : Quoted) (cs : List ℕ) (s : State) (x : Tail s) → tail_chars s x ≡ cs → Within form s
    → (s' : State) × (run s cs ≡ Some s') × (accepts s' ≡ Some (tail_kind s x)) × Within form s'
ends_within form [] s x e w = (s, refl, (subst (Ahead s x) e (fore s x)).0, w)
ends_within form (c ∷ cs) s x e h =
    let w = subst (Ahead s x) e (fore s x) in
    let i = ends_within form cs w.0 w.1 w.3 (subst (AllWithin form) w.2 (within_next form s c h)) in
    (i.0, ap (onward (λ s'. run s' cs)) w.2 ∙ i.1, i.2 ∙ ap Some w.4, i.3)

no_mark : (form : Quoted) → Some kinds.Other ≡ Some (quoted_kind form) → ⊥
no_mark quoted.Iri h = cc
no_mark quoted.Double h = cc
no_mark quoted.Single h = cc

stops_within : (form : Quoted) (s : State) (c : ℕ) → Within form s → accepts s ≡ Some (quoted_kind form) → (c == closing form) ≡ false → next s c ≡ None
stops_within form state.Less c w h e = absurd (no_mark form h)
stops_within form (state.Opened f) c w h e = cc
stops_within form (state.Emptied f) c w h e = else_is (c == closing f) _ _ (ap (λ g. c == closing g) w ∙ e)
stops_within form (state.Inside f) c w h e = cc
stops_within form (state.Escape f) c w h e = cc
stops_within form (state.Hex f left n) c w h e = cc
stops_within form (state.Done k) c w h e = refl
stops_within form s c w h e = absurd w

quoted_ends : (form : Quoted) (ps : List (Piece form))
    → (s : State) × (run state.Start (spelling (Between form ps)) ≡ Some s) × (accepts s ≡ Some (quoted_kind form)) × Within form s
quoted_ends quoted.Iri ps = ends_within quoted.Iri (pieces ps (62 ∷ [])) state.Less (Some ps) refl refl
quoted_ends quoted.Double ps = ends_within quoted.Double (pieces ps (34 ∷ [])) (state.Opened quoted.Double) (AText ps) refl refl
quoted_ends quoted.Single ps = ends_within quoted.Single (pieces ps (39 ∷ [])) (state.Opened quoted.Single) (AText ps) refl refl

quoted_apart : (form : Quoted) (ps : List (Piece form)) (c : ℕ) (more : List ℕ) → (c == closing form) ≡ false
    → IsFirst (spelling (Between form ps) ++ c ∷ more) (Between form ps) (c ∷ more)
quoted_apart form ps c more h =
    let e = quoted_ends form ps in
    parted (Between form ps) c more e.0 e.1 (stops_within form e.0 c e.3 e.2 h)

not_true : (b : Bool) → not b ≡ true → b ≡ false
not_true true h = cc
not_true false h = refl

pub stands_apart : (l : Lexeme) (rest : List ℕ) → IsTrue (is_parted l rest) → IsFirst (spelling l ++ rest) l rest
stands_apart l [] h = alone l
stands_apart (Between form ps) (c ∷ cs) h = quoted_apart form ps c cs (not_true (c == closing form) h)
stands_apart Carets (c ∷ cs) h = parted Carets c cs (state.Done kinds.Carets) refl refl
stands_apart (Word x xs) (c ∷ cs) h = spaced (Word x xs) c cs h
stands_apart (Name p n) (c ∷ cs) h = spaced (Name p n) c cs h
stands_apart DoubleQuotes (c ∷ cs) h = spaced DoubleQuotes c cs h
stands_apart SingleQuotes (c ∷ cs) h = spaced SingleQuotes c cs h
stands_apart (Var s x xs) (c ∷ cs) h = spaced (Var s x xs) c cs h
stands_apart (Label x e) (c ∷ cs) h = spaced (Label x e) c cs h
stands_apart (Tag x xs ps) (c ∷ cs) h = spaced (Tag x xs ps) c cs h
stands_apart (Number s n) (c ∷ cs) h = spaced (Number s n) c cs h
stands_apart (Mark m) (c ∷ cs) h = spaced (Mark m) c cs h
