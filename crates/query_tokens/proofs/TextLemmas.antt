-- One character of the texts of a token.
use Rattle.std.proofs.Common.{◌≡◌, ◌<◌, ◌-◌, ◌∙◌, refl, sym, ap, ℕ, List, [], ◌∷◌, ◌++◌, take, append_assoc, append-nil, Option, Some, None}
use Rattle.query_tokens.specs.declared.emit.Part.{Part}
use Rattle.query_tokens.specs.declared.emit.Part.TheVariants as part
use Rattle.query_tokens.specs.declared.state.State.{State}
use Rattle.query_tokens.specs.Scanner.{Texts, add, emit, emitted, emitting, in_front, next, no_texts, put}
use Rattle.query_tokens.proofs.FrontLemmas.{take_front}

front_nothing : (t : Texts) → in_front t no_texts ≡ t
front_nothing t =
    ap (λ (f : List ℕ). record { first = f; second = t.second ++ [] }) (append-nil t.first) ∙ ap (λ (s : List ℕ). record { first = t.first; second = s }) (append-nil t.second)

put_front : (p : Part) (t u : Texts) → in_front (put p t) u ≡ in_front t (add p u)
put_front (part.First c) t u = ap (λ (f : List ℕ). record { first = f; second = t.second ++ u.second }) (append_assoc t.first (c ∷ []) u.first)
put_front (part.Second c) t u = ap (λ (s : List ℕ). record { first = t.first ++ u.first; second = s }) (append_assoc t.second (c ∷ []) u.second)
put_front part.Nothing t u = refl

-- the texts of what is to come, by where its first character leads
emitted_by : (s : State) (left rest : List ℕ) (n c : ℕ) (o : Option State) → left ≡ c ∷ rest → 0 < n → next s c ≡ o
    → emitted s (take n left) ≡ emitting s c (λ t. emitted t (take (n - 1) rest)) o
emitted_by s left rest n c o e h step = ap (emitted s) (take_front left rest n c e h) ∙ ap (emitting s c (λ t. emitted t (take (n - 1) rest))) step

pub texts_end : (t all : Texts) (s : State) (left rest : List ℕ) (n c : ℕ) → left ≡ c ∷ rest → 0 < n → next s c ≡ None
    → in_front t (emitted s (take n left)) ≡ all → t ≡ all
texts_end t all s left rest n c e h step whole = sym (front_nothing t) ∙ sym (ap (in_front t) (emitted_by s left rest n c None e h step)) ∙ whole

pub texts_on : (t u all : Texts) (s s' : State) (left rest : List ℕ) (n c : ℕ) → left ≡ c ∷ rest → 0 < n → next s c ≡ Some s' → u ≡ put (emit s s' c) t
    → in_front t (emitted s (take n left)) ≡ all → in_front u (emitted s' (take (n - 1) rest)) ≡ all
texts_on t u all s s' left rest n c e h step is whole =
    ap (λ (v : Texts). in_front v (emitted s' (take (n - 1) rest))) is
    ∙ put_front (emit s s' c) t (emitted s' (take (n - 1) rest))
    ∙ sym (ap (in_front t) (emitted_by s left rest n c (Some s') e h step)) ∙ whole
