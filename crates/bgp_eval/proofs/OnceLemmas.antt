-- In a set of quads one quad at most counts for a triple.
use Rattle.std.proofs.Common.{◌≡◌, ℕ, ◌+◌, List, [], ◌∷◌, Bool, true, false, not, ◌&&◌, ◌||◌, refl, sym, ap, ◌∙◌, arith}
use Rattle.std.specs.List.{list_any, AllByRecursion}
use Rattle.std.specs.List.Sorted.{IsStrictlySortedBy}
use Rattle.std.specs.Cmp.{IsTotalOrder}
use Rattle.std.specs.Ordering.{is_eq, on, ordering_then, then_cmp}
use Rattle.std.specs.declared.cmp.Ordering.{Ordering}
use Rattle.std.specs.declared.cmp.Ordering.TheVariants.{Less, Equal, Greater}
use Rattle.std.proofs.lemmas.Cmp.{alike_right, on_total, then_total}
use Rattle.rdf_term.specs.Statement.{Statement}
use Rattle.rdf_term.specs.Order.{graph_cmp, quad_cmp, term_cmp}
use Rattle.rdf_term.specs.OrderLaws.{term_total}
use Rattle.bgp_eval.specs.declared.step.Reach.{Reach}
use Rattle.bgp_eval.specs.declared.step.Reach.TheVariants.{Anywhere, In}
use Rattle.bgp_eval.specs.Ways.{counts, is_one_triple}
use Rattle.query_model.proofs.CountLemmas.{one_if}

-- the order of triples
triple_cmp : Statement → Statement → Ordering
triple_cmp = then_cmp (on (λ q. q.s) term_cmp) (then_cmp (on (λ q. q.p) term_cmp) (on (λ q. q.o) term_cmp))

triple_total : IsTotalOrder triple_cmp
unfolding triple_cmp
triple_total = then_total (on_total (λ q. q.s) term_total) (then_total (on_total (λ q. q.p) term_total) (on_total (λ q. q.o) term_total))

-- quads are ordered as triples first
by_triple : (q r : Statement) → quad_cmp q r ≡ ordering_then (triple_cmp q r) (graph_cmp q.c r.c)
unfolding triple_cmp
by_triple q r = at (term_cmp q.s r.s) (term_cmp q.p r.p) (term_cmp q.o r.o)
  where
    at : (a b c : Ordering) → ordering_then a (ordering_then b (ordering_then c (graph_cmp q.c r.c))) ≡ ordering_then (ordering_then a (ordering_then b c)) (graph_cmp q.c r.c)
    at Less b c = refl
    at Equal Less c = refl
    at Equal Equal c = refl
    at Equal Greater c = refl
    at Greater b c = refl

is_one : (q r : Statement) → is_one_triple q r ≡ is_eq (triple_cmp q r)
unfolding triple_cmp
is_one q r = at (term_cmp q.s r.s) (term_cmp q.p r.p) (term_cmp q.o r.o)
  where
    at : (a b c : Ordering) → (is_eq a && (is_eq b && is_eq c)) ≡ is_eq (ordering_then a (ordering_then b c))
    at Less b c = refl
    at Equal Less c = refl
    at Equal Equal c = refl
    at Equal Greater c = refl
    at Greater b c = refl

-- a quad above another is no lower as a triple
no_lower : (q r : Statement) → quad_cmp q r ≡ Less → (triple_cmp q r ≡ Greater → ⊥)
no_lower q r e g = let f : Less ≡ Greater = sym e ∙ by_triple q r ∙ ap (λ o. ordering_then o (graph_cmp q.c r.c)) g in cc

cases : {P : Type 0} (o : Ordering) → (o ≡ Less → P) → (o ≡ Equal → P) → (o ≡ Greater → P) → P
cases Less a b c = a refl
cases Equal a b c = b refl
cases Greater a b c = c refl

-- what stands between two quads of one triple is one of that triple
between : (q r z : Statement) → quad_cmp q r ≡ Less → quad_cmp r z ≡ Less → triple_cmp q z ≡ Equal → triple_cmp q r ≡ Equal
between q r z e f h = cases (triple_cmp q r)
    (λ l. cases (triple_cmp r z)
    (λ m. let bad : Less ≡ Equal = sym (triple_total.trans q r z l m) ∙ h in cc)
    (λ m. let bad : Less ≡ Equal = sym l ∙ alike_right triple_total r z q m ∙ h in cc)
    (λ m. absurd (no_lower r z f m)))
    (λ l. l)
    (λ l. absurd (no_lower q r e l))

-- how many of these quads count and pass
abbrev pub passing : Reach → (Statement → Bool) → List Statement → ℕ
passing reach p [] = 0
passing reach p (q ∷ qs) = one_if (counts reach q qs && p q) + passing reach p qs

or_twice : (a b : Bool) → (a || (a || b)) ≡ (a || b)
or_twice true b = refl
or_twice false b = refl

zero_and : (n : ℕ) → 0 + n ≡ n
zero_and n = omega arith

-- where no two quads pass, one at most does

none_above : (p : Statement → Bool) (q : Statement) → ((r : Statement) → p r ≡ true → quad_cmp q r ≡ Less → ⊥)
    → (rs : List Statement) → AllByRecursion (λ r. quad_cmp q r ≡ Less) rs → list_any p rs ≡ false
none_above p q bad [] a = refl
none_above p q bad (r ∷ rs) a = at (p r) refl (none_above p q bad rs a.1)
  where
    at : (b : Bool) → p r ≡ b → list_any p rs ≡ false → (b || list_any p rs) ≡ false
    at true e rest = absurd (bad r e a.0)
    at false e rest = rest

pub passing-alone : (part : _) (p : Statement → Bool) → ((q r : Statement) → p q ≡ true → p r ≡ true → quad_cmp q r ≡ Less → ⊥)
    → (qs : List Statement) → IsStrictlySortedBy quad_cmp qs → passing (In part) p qs ≡ one_if (list_any p qs)
unfolding IsStrictlySortedBy
passing-alone part p bad [] s = refl
passing-alone part p bad (q ∷ qs) s = at (p q) refl (passing-alone part p bad qs s.1)
  where
    at : (b : Bool) → p q ≡ b → passing (In part) p qs ≡ one_if (list_any p qs) → one_if b + passing (In part) p qs ≡ one_if (b || list_any p qs)
    at true e rest = ap (λ n. 1 + n) (rest ∙ ap one_if (none_above p q (λ r f l. bad q r e f l) qs s.0))
    at false e rest = zero_and (passing (In part) p qs) ∙ rest

-- where quads of one triple alone pass, one at most counts

none_of_another : (p : Statement → Bool) (q r : Statement) → ((z : Statement) → p z ≡ true → triple_cmp q z ≡ Equal) → quad_cmp q r ≡ Less → (triple_cmp q r ≡ Equal → ⊥)
    → (zs : List Statement) → AllByRecursion (λ z. quad_cmp r z ≡ Less) zs → list_any p zs ≡ false
none_of_another p q r one l other [] a = refl
none_of_another p q r one l other (z ∷ zs) a = at (p z) refl (none_of_another p q r one l other zs a.1)
  where
    at : (b : Bool) → p z ≡ b → list_any p zs ≡ false → (b || list_any p zs) ≡ false
    at true e rest = absurd (other (between q r z l a.0 (one z e)))
    at false e rest = rest

pub passing-anywhere : (p : Statement → Bool) → ((q r : Statement) → p q ≡ true → p r ≡ true → is_one_triple q r ≡ true) → ((q r : Statement) → is_one_triple q r ≡ true → p q ≡ p r)
    → (qs : List Statement) → IsStrictlySortedBy quad_cmp qs → passing Anywhere p qs ≡ one_if (list_any p qs)
unfolding IsStrictlySortedBy
passing-anywhere p one alike [] s = refl
passing-anywhere p one alike (q ∷ []) s = at (p q)
  where
    at : (b : Bool) → one_if b + 0 ≡ one_if (b || false)
    at true = refl
    at false = refl
passing-anywhere p one alike (q ∷ r ∷ rs) s = at (is_one_triple q r) refl (passing-anywhere p one alike (r ∷ rs) s.1)
  where
    equal : (x y : Statement) → p x ≡ true → p y ≡ true → triple_cmp x y ≡ Equal
    equal x y e f = to (triple_cmp x y) (sym (is_one x y) ∙ one x y e f)
      where
        to : (o : Ordering) → is_eq o ≡ true → o ≡ Equal
        to Less h = cc
        to Equal h = refl
        to Greater h = cc

    other : is_one_triple q r ≡ false → triple_cmp q r ≡ Equal → ⊥
    other e h = let bad : true ≡ false = sym (is_one q r ∙ ap is_eq h) ∙ e in cc

    none : is_one_triple q r ≡ false → p q ≡ true → list_any p (r ∷ rs) ≡ false
    none e f = from (p r) refl
      where
        from : (b : Bool) → p r ≡ b → (b || list_any p rs) ≡ false
        from true g = absurd (other e (equal q r f g))
        from false g = none_of_another p q r (λ z h. equal q z f h) s.0.0 (other e) rs s.1.0

    apart : (b : Bool) → p q ≡ b → is_one_triple q r ≡ false → passing Anywhere p (r ∷ rs) ≡ one_if (list_any p (r ∷ rs))
        → one_if b + passing Anywhere p (r ∷ rs) ≡ one_if (b || list_any p (r ∷ rs))
    apart true f e rest = ap (λ n. 1 + n) (rest ∙ ap one_if (none e f))
    apart false f e rest = zero_and (passing Anywhere p (r ∷ rs)) ∙ rest

    at : (b : Bool) → is_one_triple q r ≡ b → passing Anywhere p (r ∷ rs) ≡ one_if (list_any p (r ∷ rs))
        → one_if (not b && p q) + passing Anywhere p (r ∷ rs) ≡ one_if (list_any p (q ∷ r ∷ rs))
    at true e rest = zero_and (passing Anywhere p (r ∷ rs)) ∙ rest ∙ ap one_if (sym (or_twice (p r) (list_any p rs)) ∙ ap (λ b. b || list_any p (r ∷ rs)) (sym (alike q r e)))
    at false e rest = apart (p q) refl e rest
