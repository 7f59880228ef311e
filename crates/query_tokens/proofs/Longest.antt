-- The machine finds the longest token with which a text begins, and its value.
use Rattle.std.proofs.Common.{◌≡◌, ◌≤◌, ◌+◌, length-append, refl, ◌∙◌, sym, ap, subst, ℕ, suc, arith, true, false, List, [], ◌∷◌, ◌++◌, length, take, drop, Option, Some, None}
use Rattle.std.proofs.Math.Seq.{take-append_seam, drop-append_seam}
use Rattle.query_tokens.specs.declared.token.Number.TheVariants as number
use Rattle.query_tokens.specs.declared.kind.Kind.{Kind}
use Rattle.query_tokens.specs.declared.kind.Kind.TheVariants as kinds
use Rattle.query_tokens.specs.declared.kind.Quoted.TheVariants as quoted
use Rattle.query_tokens.specs.declared.state.State.{State}
use Rattle.query_tokens.specs.declared.state.State.TheVariants as state
use Rattle.query_tokens.specs.Classes.{marks, is_mark}
use Rattle.query_tokens.specs.Lexemes.{Lexeme, Word, Name, Between, DoubleQuotes, SingleQuotes, Var, Label, Tag, Number, Mark, Carets, Whole, Decimal, Double, Pointed, Fraction, Bare, spelling, value, mark_of}
use Rattle.query_tokens.specs.Scanner.{next, accepts, longest, further, at_least, quoted_kind, Texts, emit, add, emitting, emitted, token_of, has_text}
use Rattle.query_tokens.specs.Tokens.{IsRead, BeginsNone}
use Rattle.query_tokens.proofs.Cases.{AllOf, member}
use Rattle.query_tokens.proofs.Tails.{Tail, tail_chars, tail_kind, tail_texts, AWord, AWhole, kind, mark_kind, texts}
use Rattle.query_tokens.proofs.Fore.{Forward, fore}
use Rattle.query_tokens.proofs.Back.{Backward, back}

same_kind : (j k : Kind) → Some j ≡ Some k → j ≡ k
same_kind j k e = cc

-- what accepts has a rest with no characters
accepted : (s : State) (k : Kind) → accepts s ≡ Some k → (x : Tail s) × (tail_chars s x ≡ []) × (tail_kind s x ≡ k)
accepted state.Letters k h = (AWord [], refl, same_kind kinds.Word k h)
accepted state.Colon k h = (None, refl, same_kind kinds.Namespace k h)
accepted state.Local k h = (None, refl, same_kind kinds.Name k h)
accepted state.Question k h = (None, refl, same_kind kinds.Other k h)
accepted state.Variable k h = ([], refl, same_kind kinds.Var k h)
accepted state.LabelChars k h = (None, refl, same_kind kinds.Label k h)
accepted state.Less k h = (None, refl, same_kind kinds.Other k h)
accepted (state.Emptied form) k h = (false, refl, same_kind (quoted_kind form) k h)
accepted state.At k h = (None, refl, same_kind kinds.Other k h)
accepted state.TagLetters k h = (([], []), refl, same_kind kinds.Tag k h)
accepted state.TagPart k h = (([], []), refl, same_kind kinds.Tag k h)
accepted (state.Sign j) k h = (None, refl, same_kind j k h)
accepted (state.Digits n) k h = (AWhole [], refl, same_kind (kinds.Number n) k h)
accepted state.Dot k h = (None, refl, same_kind kinds.Dot k h)
accepted state.Fraction k h = (([], None), refl, same_kind (kinds.Number number.Decimal) k h)
accepted state.ExponentDigits k h = ([], refl, same_kind (kinds.Number number.Double) k h)
accepted state.Caret k h = (false, refl, same_kind kinds.Unsupported k h)
accepted (state.Done j) k h = (tt, refl, same_kind j k h)
accepted s k h = cc

-- A front of the text, one character or more, that completes a token from the state.
abbrev Front : State → List ℕ → ℕ → Kind → Type 0
Front s text n k = (x : Tail s) × (rest : List ℕ) × (text ≡ tail_chars s x ++ rest) × (n ≡ length (tail_chars s x)) × (tail_kind s x ≡ k)

raise : (s : State) (c : ℕ) (s' : State) (cs : List ℕ) (n : ℕ) (k : Kind) → next s c ≡ Some s' → Front s' cs n k → Front s (c ∷ cs) (suc n) k
raise s c s' cs n k e w =
    let up = subst (Backward s c) e (back s c) w.0 in
    (up.0, w.1, ap (λ l. c ∷ l) w.2 ∙ ap (λ (l : List ℕ). l ++ w.1) (sym up.1), ap suc w.3 ∙ sym (ap length up.1), up.2 ∙ w.4)

same_some : (y z : ℕ × Kind) → Some y ≡ Some z → y ≡ z
same_some y z e = cc

found_in : (s : State) (c : ℕ) (s' : State) (cs : List ℕ) (a : Option Kind) (r : Option (ℕ × Kind)) (z : ℕ × Kind) → next s c ≡ Some s' → accepts s' ≡ a
    → ((y : ℕ × Kind) → r ≡ Some y → Front s' cs y.0 y.1) → at_least a r ≡ Some z → Front s (c ∷ cs) z.0 z.1
found_in s c s' cs (Some j) (Some x) z e h ih g = subst (λ (y : ℕ × Kind). Front s (c ∷ cs) y.0 y.1) (same_some (suc x.0, x.1) z g) (raise s c s' cs x.0 x.1 e (ih x refl))
found_in s c s' cs None (Some x) z e h ih g = subst (λ (y : ℕ × Kind). Front s (c ∷ cs) y.0 y.1) (same_some (suc x.0, x.1) z g) (raise s c s' cs x.0 x.1 e (ih x refl))
found_in s c s' cs (Some j) None z e h ih g =
    let w = accepted s' j h in
    subst (λ (y : ℕ × Kind). Front s (c ∷ cs) y.0 y.1) (same_some (1, j) z g)
    (raise s c s' cs 0 j e (w.0, cs, ap (λ (l : List ℕ). l ++ cs) (sym w.1), sym (ap length w.1), w.2))
found_in s c s' cs None None z e h ih g = cc

found_by : (s : State) (c : ℕ) (cs : List ℕ) (o : Option State) (z : ℕ × Kind) → next s c ≡ o
    → ((s' : State) (y : ℕ × Kind) → longest s' cs ≡ Some y → Front s' cs y.0 y.1) → further (λ s'. longest s' cs) o ≡ Some z → Front s (c ∷ cs) z.0 z.1
found_by s c cs None z e ih g = cc
found_by s c cs (Some s') z e ih g = found_in s c s' cs (accepts s') (longest s' cs) z e refl (ih s') g

longest_found : (cs : List ℕ) (s : State) (z : ℕ × Kind) → longest s cs ≡ Some z → Front s cs z.0 z.1
longest_found [] s z e = cc
longest_found (c ∷ cs) s z e = found_by s c cs (next s c) z refl (λ s' y h. longest_found cs s' y h) e

-- At least as long as any other.
abbrev AtLeast : ℕ → Option (ℕ × Kind) → Type 0
AtLeast n None = ⊥
AtLeast n (Some x) = n ≤ x.0

later_least : (a : Option Kind) (n : ℕ) (r : Option (ℕ × Kind)) → AtLeast n r → AtLeast (suc n) (at_least a r)
later_least (Some a) n (Some x) h = omega arith
later_least None n (Some x) h = omega arith
later_least (Some a) n None h = absurd h
later_least None n None h = absurd h

first_least : (a : Option Kind) (k : Kind) (r : Option (ℕ × Kind)) → a ≡ Some k → AtLeast 1 (at_least a r)
first_least (Some a) k (Some x) h = omega arith
first_least (Some a) k None h = omega arith
first_least None k (Some x) h = cc
first_least None k None h = cc

abbrev Ahead : (s : State) → Tail s → List ℕ → Type 0
Ahead s x cs = Forward s (tail_kind s x) (tail_texts s x) cs

least_by : (s : State) (ds cs rest : List ℕ) (x : Tail s) → tail_chars s x ≡ cs → ds ≡ cs ++ rest
    → ((c : ℕ) (l : List ℕ) → cs ≡ c ∷ l → AtLeast (length cs) (longest s ds)) → AtLeast (suc (length cs)) (at_least (accepts s) (longest s ds))
least_by s ds [] rest x e h ih = first_least (accepts s) (tail_kind s x) (longest s ds) (subst (Ahead s x) e (fore s x)).0
least_by s ds (c ∷ cs) rest x e h ih = later_least (accepts s) (length (c ∷ cs)) (longest s ds) (ih c cs refl)

same_head : (c d : ℕ) (l m : List ℕ) → c ∷ l ≡ d ∷ m → (c ≡ d) × (l ≡ m)
same_head c d l m e = (cc, cc)

-- every token's front is at most that long
longest_least : (text : List ℕ) (s : State) (c : ℕ) (cs rest : List ℕ) (x : Tail s) → tail_chars s x ≡ c ∷ cs → text ≡ c ∷ cs ++ rest → AtLeast (length (c ∷ cs)) (longest s text)
longest_least [] s c cs rest x e h = cc
longest_least (d ∷ ds) s c cs rest x e h =
    let w = subst (Ahead s x) e (fore s x) in
    let p = same_head d c ds (cs ++ rest) h in
    subst (λ (o : Option State). AtLeast (suc (length cs)) (further (λ s'. longest s' ds) o)) (sym (ap (next s) p.0 ∙ w.2))
    (least_by w.0 ds cs rest w.1 w.3 p.1 (λ c' l k. subst (λ (m : List ℕ). AtLeast (length m) (longest w.0 ds)) (sym k) (longest_least ds w.0 c' l rest w.1 (w.3 ∙ k) (p.1 ∙ ap (λ (m : List ℕ). m ++ rest) k))))

-- a token has a character
pub has_char : (l : Lexeme) → (c : ℕ) × (cs : List ℕ) × (spelling l ≡ c ∷ cs)
has_char (Word c cs) = (_, _, refl)
has_char (Name None l) = (_, _, refl)
has_char (Name (Some p) l) = (_, _, refl)
has_char (Between form ps) = (_, _, refl)
has_char DoubleQuotes = (_, _, refl)
has_char SingleQuotes = (_, _, refl)
has_char (Var s c cs) = (_, _, refl)
has_char (Label c e) = (_, _, refl)
has_char (Tag c cs ps) = (_, _, refl)
has_char (Number (Some s) n) = (_, _, refl)
has_char (Number None (Whole d ds)) = (_, _, refl)
has_char (Number None (Decimal [] f fs)) = (_, _, refl)
has_char (Number None (Decimal (d ∷ ds) f fs)) = (_, _, refl)
has_char (Number None (Double (Pointed d ds fs) e)) = (_, _, refl)
has_char (Number None (Double (Fraction f fs) e)) = (_, _, refl)
has_char (Number None (Double (Bare d ds) e)) = (_, _, refl)
has_char (Mark m) = (_, _, refl)
has_char Carets = (_, _, refl)

at_most : (r : Option (ℕ × Kind)) (z : ℕ × Kind) (n : ℕ) → r ≡ Some z → AtLeast n r → n ≤ z.0
at_most r z n e h = subst (AtLeast n) e h

none_least : (r : Option (ℕ × Kind)) (n : ℕ) → r ≡ None → AtLeast n r → ⊥
none_least r n e h = subst (AtLeast n) e h

pub none_first : (text : List ℕ) → longest state.Start text ≡ None → BeginsNone text
none_first text e other rest h = let c = has_char other in
    none_least (longest state.Start text) _ e (longest_least text state.Start c.0 c.1 rest other c.2 (h ∙ ap (λ (l : List ℕ). l ++ rest) c.2))

-- the texts that the machine makes of what is left of a token are its texts
pub emitted_texts : (cs : List ℕ) (s : State) (x : Tail s) → tail_chars s x ≡ cs → emitted s cs ≡ tail_texts s x
emitted_texts [] s x e = sym (subst (Ahead s x) e (fore s x)).1
emitted_texts (c ∷ cs) s x e =
    let w = subst (Ahead s x) e (fore s x) in
    ap (emitting s c (λ s'. emitted s' cs)) w.2 ∙ ap (add (emit s w.0 c)) (emitted_texts cs w.0 w.1 w.3) ∙ sym w.5

abbrev MarkValue : ℕ → Type 0
MarkValue c = (t : Texts) → token_of (mark_kind c) t ≡ mark_of c

-- the value of a token is the token of its kind with its texts
pub valued : (l : Lexeme) → token_of (kind l) (texts l) ≡ value l
valued (Word c cs) = refl
valued (Name p None) = refl
valued (Name p (Some l)) = refl
valued (Between quoted.Iri ps) = refl
valued (Between quoted.Double ps) = refl
valued (Between quoted.Single ps) = refl
valued DoubleQuotes = refl
valued SingleQuotes = refl
valued (Var s c cs) = refl
valued (Label c e) = refl
valued (Tag c cs ps) = refl
valued (Number s n) = refl
valued (Mark m) = by_mark m.char m.fits (texts (Mark m)) where
  all : AllOf MarkValue marks
  all = ((λ t. refl), ((λ t. refl), ((λ t. refl), ((λ t. refl), ((λ t. refl), ((λ t. refl), ((λ t. refl), ((λ t. refl), ((λ t. refl), ((λ t. refl), ((λ t. refl), ((λ t. refl), ((λ t. refl), ((λ t. refl), ((λ t. refl), ((λ t. refl), ((λ t. refl), ((λ t. refl), ((λ t. refl), ((λ t. refl), ((λ t. refl), ((λ t. refl), tt))))))))))))))))))))))

  by_mark : (c : ℕ) → is_mark c ≡ true → MarkValue c
  by_mark c h = member MarkValue marks c all h
valued Carets = refl

-- what the machine finds is the first token of the text
pub is_read : (text : List ℕ) (z : ℕ × Kind) → longest state.Start text ≡ Some z → IsRead text (token_of z.1 (emitted state.Start (take z.0 text))) z.0
is_read text z e =
    let w = longest_found text state.Start z e in
    let whole : take z.0 text ≡ spelling w.0 = subst (λ n. take n text ≡ spelling w.0) (sym w.3) (ap (take (length (spelling w.0))) w.2 ∙ take-append_seam (spelling w.0) w.1) in
    let behind : drop z.0 text ≡ w.1 = subst (λ n. drop n text ≡ w.1) (sym w.3) (ap (drop (length (spelling w.0))) w.2 ∙ drop-append_seam (spelling w.0) w.1) in
    record {
      lexeme = w.0;
      first = record {
        split = w.2 ∙ ap (λ (l : List ℕ). spelling w.0 ++ l) (sym behind);
        longest = λ other rest h. (let c = has_char other in
            let m = longest_least text state.Start c.0 c.1 rest other c.2 (h ∙ ap (λ (l : List ℕ). l ++ rest) c.2) in
            subst (λ n. length (spelling other) ≤ n) w.3
            (at_most (longest state.Start text) z (length (spelling other)) e (subst (λ (l : List ℕ). AtLeast (length l) (longest state.Start text)) (sym c.2) m)));
      };
      meant = ap (λ k. token_of k (emitted state.Start (take z.0 text))) (sym w.4)
          ∙ ap (token_of (kind w.0)) (emitted_texts (take z.0 text) state.Start w.0 (sym whole)) ∙ valued w.0;
      counted = w.3;
    }

-- the token of a kind without a text has none
pub no_text : (k : Kind) (t u : Texts) → has_text k ≡ false → token_of k t ≡ token_of k u
no_text kinds.Word t u h = cc
no_text kinds.Namespace t u h = cc
no_text kinds.Name t u h = cc
no_text kinds.Iri t u h = cc
no_text kinds.Str t u h = cc
no_text kinds.Quotes t u h = refl
no_text kinds.Var t u h = cc
no_text kinds.Label t u h = cc
no_text kinds.Tag t u h = cc
no_text (kinds.Number k) t u h = cc
no_text kinds.Open t u h = refl
no_text kinds.Close t u h = refl
no_text kinds.Dot t u h = refl
no_text kinds.Semicolon t u h = refl
no_text kinds.Comma t u h = refl
no_text kinds.Carets t u h = refl
no_text kinds.Star t u h = refl
no_text kinds.Unsupported t u h = refl
no_text kinds.Other t u h = refl
