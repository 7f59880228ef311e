-- There is one first refused token.
use Rattle.std.proofs.Common.{◌≡◌, refl, ◌∙◌, sym, ap, ℕ, Bool, true, false, List, [], ◌∷◌, ◌++◌, Option, Some, None, ◌⊎◌, inl, inr, length}
use Rattle.std.specs.Option.{is_none}
use Rattle.std.specs.declared.result.Result.TheVariants.{Err}
use Rattle.query_tokens.specs.declared.token.Token.{Token}
use Rattle.query_grammar.specs.declared.mode.Role.{Role}
use Rattle.query_grammar.specs.declared.mode.Mode.{Mode}
use Rattle.query_grammar.specs.declared.mode.Mode.TheVariants as mode
use Rattle.query_grammar.specs.declared.fault.Kind.{Kind}
use Rattle.query_grammar.specs.declared.built.Built.{Built}
use Rattle.query_grammar.specs.Said.{Said}
use Rattle.query_grammar.specs.Grammar.{say}
use Rattle.query_grammar.specs.Machine.{next, can_end}
use Rattle.query_grammar.specs.Built.{refusal, add, empty}
use Rattle.query_grammar.specs.Queries.{tokens, built, is_fine, by_itself, FirstRefused, IsRefused}
use Rattle.query_grammar.specs.Runs.{run, taken, checked, later, at_end}
use Rattle.query_grammar.proofs.Tails.{tail_said}
use Rattle.query_grammar.proofs.RunLaws.{BeginsAt, RefusedAt, NoneAt, WhyAt, some_tail, ended, raise, lower, never, cons_tokens, same_said, split, none_of, up_begins}

-- a part of the tokens begins with t: t is taken, and what is left begins there
record Down (m : Mode) (b : Built) (t : Token) (ts : List Token) : Type 0 where
  x : Role × Mode
  leads : next m t ≡ Some x
  fine : refusal b x.0 t ≡ None
  left : BeginsAt x.1 (add b x.0 t) ts

down_by : (m : Mode) (b : Built) (t : Token) (ts : List Token) (o : Option (Role × Mode)) → next m t ≡ o → BeginsAt m b (t ∷ ts) → Down m b t ts
down_by m b t ts None n w =
    let c = cons_tokens w.1 t ts w.4 in
    absurd (never m c.0 (c.1 ++ w.2) w.0 (ap (next m) c.3 ∙ n) (w.3 ∙ ap (λ (l : List Said). l ++ w.2) c.2))
down_by m b t ts (Some x) n w =
    let c = cons_tokens w.1 t ts w.4 in
    let v = lower m x c.0 (c.1 ++ w.2) w.0 (ap (next m) c.3 ∙ n) (w.3 ∙ ap (λ (l : List Said). l ++ w.2) c.2) in
    let e : w.1 ≡ record { role = x.0; token = t } ∷ c.1 = c.2 ∙ ap (λ (s : Said). s ∷ c.1) (same_said c.0 x.0 t v.2 c.3) in
    let f : is_fine b (record { role = x.0; token = t } ∷ c.1) ≡ true = sym (ap (is_fine b) e) ∙ w.5 in
    let g = split (is_none (refusal b x.0 t)) (is_fine (add b x.0 t) c.1) f in
    record { x = x; leads = n; fine = none_of (refusal b x.0 t) g.0; left = (v.0, c.1, w.2, v.1, c.4, g.1) }

nil_tokens : (ss : List Said) → tokens ss ≡ [] → ss ≡ []
nil_tokens [] k = refl
nil_tokens (s ∷ ss) k = cc

here_said : (m : Mode) (b : Built) (t : Token) (k : Kind) (w : RefusedAt m b [] t k) → tail_said m w.0 ≡ w.2 ∷ w.3
here_said m b t k w = w.4 ∙ ap (λ (l : List Said). l ++ w.2 ∷ w.3) (nil_tokens w.1 w.5)

here_refused : (m : Mode) (b : Built) (t : Token) (k : Kind) (x : Role × Mode) (w : RefusedAt m b [] t k) → next m t ≡ Some x → refusal b x.0 t ≡ Some k
here_refused m b t k x w n =
    let v = lower m x w.2 w.3 w.0 (ap (next m) w.7 ∙ n) (here_said m b t k w) in
    ap (λ (r : Role). refusal b r t) (sym v.2) ∙ ap (refusal b w.2.role) (sym w.7) ∙ ap (λ (l : List Said). refusal (built b l) w.2.role w.2.token) (sym (nil_tokens w.1 w.5)) ∙ w.8

-- the first token is refused
first_by : (m : Mode) (b : Built) (t : Token) (ts : List Token) (k : Kind) (o : Option (Role × Mode)) → next m t ≡ o → RefusedAt m b [] t k ⊎ (NoneAt m (t ∷ []) × (k ≡ by_itself t))
    → taken b t (λ m' b'. run m' b' ts) o ≡ Err (0, k)
first_by m b t ts k None n (inr h) = ap (λ (j : Kind). Err (0, j)) (sym h.1)
first_by m b t ts k None n (inl w) = absurd (never m w.2 w.3 w.0 (ap (next m) w.7 ∙ n) (here_said m b t k w))
first_by m b t ts k (Some x) n (inr h) = let up = raise m t x n (some_tail x.1) in absurd (h.0 up.0 (record { role = x.0; token = t } ∷ []) (tail_said x.1 (some_tail x.1)) up.1 refl)
first_by m b t ts k (Some x) n (inl w) = ap (λ (o : Option Kind). checked o (run x.1 (add b x.0 t) ts)) (here_refused m b t k x w n)

down_refused : (m : Mode) (b : Built) (t : Token) (x : Role × Mode) (ts : List Token) (u : Token) (k : Kind) → next m t ≡ Some x → RefusedAt m b (t ∷ ts) u k → RefusedAt x.1 (add b x.0 t) ts u k
down_refused m b t x ts u k n w =
    let c = cons_tokens w.1 t ts w.5 in
    let v = lower m x c.0 (c.1 ++ w.2 ∷ w.3) w.0 (ap (next m) c.3 ∙ n) (w.4 ∙ ap (λ (l : List Said). l ++ w.2 ∷ w.3) c.2) in
    let e : w.1 ≡ record { role = x.0; token = t } ∷ c.1 = c.2 ∙ ap (λ (s : Said). s ∷ c.1) (same_said c.0 x.0 t v.2 c.3) in
    let f : is_fine b (record { role = x.0; token = t } ∷ c.1) ≡ true = sym (ap (is_fine b) e) ∙ w.6 in (
      v.0,
      c.1,
      w.2,
      w.3,
      v.1,
      c.4,
      (split (is_none (refusal b x.0 t)) (is_fine (add b x.0 t) c.1) f).1,
      w.7,
      ap (λ (l : List Said). refusal (built b l) w.2.role w.2.token) (sym e) ∙ w.8,
    )

down_none : (m : Mode) (t : Token) (x : Role × Mode) (ts : List Token) → next m t ≡ Some x → NoneAt m (t ∷ ts) → NoneAt x.1 ts
down_none m t x ts n none tail front rest e h =
    let up = raise m t x n tail in none up.0 (record { role = x.0; token = t } ∷ front) rest (up.1 ∙ ap (say x.0 t) e) (ap (λ l. t ∷ l) h)

down_why : (m : Mode) (b : Built) (t : Token) (x : Role × Mode) (before after : List Token) (k : Kind) → next m t ≡ Some x → refusal b x.0 t ≡ None
    → WhyAt m b (t ∷ before) after k → WhyAt x.1 (add b x.0 t) before after k
down_why m b t x before [] k n r w = (w.0, λ tail h. (let up = raise m t x n tail in w.1 up.0 (ap tokens up.1 ∙ ap (λ l. t ∷ l) h)))
down_why m b t x before (u ∷ after) k n r w = (
  elim w.0 [
    | inl h ↦ inl (down_refused m b t x before u k n h)
    | inr h ↦ inr (down_none m t x (before ++ u ∷ []) n h.0, h.1)
  ],
  λ g. w.1 (up_begins m b t x (before ++ u ∷ []) n r g),
)

end_by : (m : Mode) (b : Built) (k : Kind) (c : Bool) → can_end m ≡ c → WhyAt m b [] [] k → at_end b c ≡ Err (0, k)
end_by m b k true h w = let z = ended m h in absurd (w.1 z.0 (ap tokens z.1))
end_by m b k false h w = ap (λ (j : Kind). Err (0, j)) (sym w.0)

pub fault_is : (before after : List Token) (m : Mode) (b : Built) (k : Kind) → BeginsAt m b before → WhyAt m b before after k → run m b (before ++ after) ≡ Err (length before, k)
fault_is [] [] m b k g w = end_by m b k (can_end m) refl w
fault_is [] (t ∷ after) m b k g w = first_by m b t after k (next m t) refl w.0
fault_is (t ∷ before) after m b k g w =
    let d = down_by m b t before (next m t) refl g in
    ap (taken b t (λ m' b'. run m' b' (before ++ after))) d.leads
    ∙ ap (λ (o : Option Kind). checked o (run d.x.1 (add b d.x.0 t) (before ++ after))) d.fine
    ∙ ap later (fault_is before after d.x.1 (add b d.x.0 t) k d.left (down_why m b t d.x before after k d.leads d.fine w))

why_at : (before after : List Token) (k : Kind) → IsRefused before after k → WhyAt mode.Head empty before after k
why_at before [] k w = w
why_at before (t ∷ after) k w = (
  elim w.0 [
    | inl h ↦ inl (h.tree, h.front, h.here, h.rest, h.split, h.is, h.fine, h.token, h.refused)
    | inr h ↦ inr h
  ],
  λ g. w.1 (record { tree = g.0; front = g.1; rest = g.2; split = g.3; is = g.4; fine = g.5 }),
)

-- There is one first refused token.
pub refused_run : (ts : List Token) (n : ℕ) (k : Kind) → FirstRefused ts n k → run mode.Head empty ts ≡ Err (n, k)
refused_run ts n k w =
    ap (run mode.Head empty) w.split
    ∙ fault_is w.before w.after mode.Head empty k (w.begins.tree, w.begins.front, w.begins.rest, w.begins.split, w.begins.is, w.begins.fine) (why_at w.before w.after k w.refused)
    ∙ ap (λ (i : ℕ). Err (i, k)) (sym w.place)
