use Rattle.std.proofs.Common.{◌≡◌, ◌+◌, ◌<◌, refl, ap, ◌∙◌, sym, ℕ, List, length, drop, get_or, arith, Option, Some, None}
use Rattle.std.proofs.lemmas.List.{at_drop_more}
use Rattle.query_tokens.specs.declared.state.State.{State}
use Rattle.query_tokens.specs.declared.kind.Kind.{Kind}
use Rattle.query_tokens.specs.Scanner.{next, accepts, longest, further, at_least, or_later, better}

pub or_later_more : (best : Option (ℕ × Kind)) (n : ℕ) (a : Option Kind) (r : Option (ℕ × Kind)) → or_later best n (at_least a r) ≡ or_later (better best (n + 1) a) (n + 1) r
or_later_more best n None None = refl
or_later_more best n (Some k) None = refl
or_later_more best n None (Some x) = ap (λ (m : ℕ). Some (m, x.1)) (omega arith)
or_later_more best n (Some k) (Some x) = ap (λ (m : ℕ). Some (m, x.1)) (omega arith)

pub one_more : (text : List ℕ) (best found : Option (ℕ × Kind)) (i : ℕ) (s s' : State) (d : ℕ) (all : Option (ℕ × Kind)) → i < length text → d ≡ get_or text i d
    → next s d ≡ Some s' → found ≡ better best (i + 1) (accepts s') → all ≡ or_later best i (longest s (drop i text))
    → all ≡ or_later found (i + 1) (longest s' (drop (i + 1) text))
one_more text best found i s s' d all lt is step f e =
    e ∙ ap (or_later best i) (at_drop_more (longest s) text i d lt
    ∙ ap (further (λ t. longest t (drop (i + 1) text))) (ap (next s) (sym is) ∙ step))
    ∙ or_later_more best i (accepts s') (longest s' (drop (i + 1) text))
    ∙ ap (λ (b : Option (ℕ × Kind)). or_later b (i + 1) (longest s' (drop (i + 1) text))) (sym f)
