-- Whole rows that agree with a row in which some places are unbound.
use Rattle.std.proofs.Common.{◌≡◌, ℕ, zero, suc, List, [], ◌∷◌, Bool, true, false, ◌&&◌, Option, Some, None, refl, sym, ap, ◌∙◌, slice_index_or}
use Rattle.std.specs.List.{slice_get}
use Rattle.std.specs.Option.{option_and_then}
use Rattle.std.specs.Ordering.{eq_by_cmp, is_eq}
use Rattle.std.specs.declared.cmp.Ordering.{Ordering}
use Rattle.std.specs.declared.cmp.Ordering.TheVariants.{Less, Equal, Greater}
use Rattle.rdf_term.specs.declared.term.Term.{Term}
use Rattle.rdf_term.specs.declared.graph.Graph.{Graph}
use Rattle.rdf_term.specs.declared.graph.Graph.TheVariants.{Absent, Named}
use Rattle.rdf_term.specs.Statement.{Statement}
use Rattle.rdf_term.specs.Order.{term_cmp}
use Rattle.rdf_term.specs.OrderLaws.{term_exact}
use Rattle.query_model.specs.Solutions.{is_term}
use Rattle.bgp_eval.specs.declared.part.Part.{Part}
use Rattle.bgp_eval.specs.declared.part.Part.TheVariants.{Given, Unknown, Unbound}
use Rattle.bgp_eval.specs.declared.step.Reach.{Reach}
use Rattle.bgp_eval.specs.declared.step.Reach.TheVariants.{Anywhere, In}
use Rattle.bgp_eval.specs.declared.step.Step.{Step}
use Rattle.bgp_eval.specs.Parts.{part_value}
use Rattle.bgp_eval.specs.Ways.{bound, bound_at, extended, kept_if, reached}

-- the row has each value that is bound in the other
abbrev pub agrees : List (Option Term) → List (Option Term) → Bool
agrees [] [] = true
agrees [] (p ∷ ps) = false
agrees (v ∷ vs) [] = false
agrees (v ∷ vs) (None ∷ ps) = agrees vs ps
agrees (v ∷ vs) (Some t ∷ ps) = is_term v t && agrees vs ps

abbrev pub agrees_if : List (Option Term) → Option (List (Option Term)) → Bool
agrees_if a None = false
agrees_if a (Some row) = agrees a row

and_true : (a : Bool) → a ≡ (a && true)
and_true true = refl
and_true false = refl

and_false : (a : Bool) → false ≡ (a && false)
and_false true = refl
and_false false = refl

and_comm : (a b : Bool) → (a && b) ≡ (b && a)
and_comm true true = refl
and_comm true false = refl
and_comm false true = refl
and_comm false false = refl

and_assoc : (a b c : Bool) → (a && (b && c)) ≡ ((a && b) && c)
and_assoc true b c = refl
and_assoc false b c = refl

agrees-kept_if : (a row : List (Option Term)) (b : Bool) → agrees_if a (kept_if b row) ≡ (agrees a row && b)
agrees-kept_if a row true = and_true (agrees a row)
agrees-kept_if a row false = and_false (agrees a row)

-- a place that is bound to u holds t where u is t
same_place : (v : Option Term) (u t : Term) (rest : Bool) → ((is_term v u && rest) && eq_by_cmp term_cmp u t) ≡ ((is_term v u && rest) && is_term v t)
same_place None u t rest = refl
same_place (Some w) u t rest = at (term_cmp w u) refl rest
  where
    at : (r : Ordering) → term_cmp w u ≡ r → (rest : Bool) → ((is_eq r && rest) && eq_by_cmp term_cmp u t) ≡ ((is_eq r && rest) && eq_by_cmp term_cmp w t)
    at Less e rest = refl
    at Equal e rest = ap (λ x. (true && rest) && eq_by_cmp term_cmp x t) (sym (term_exact w u e))
    at Greater e rest = refl

-- a row with one more value in front
abbrev put_first : Option Term → Option (List (Option Term)) → Option (List (Option Term))
put_first p None = None
put_first p (Some row) = Some (p ∷ row)

bound_at-later : (p : Option Term) (row : List (Option Term)) (n : ℕ) (t : Term)
    → bound_at (p ∷ row) (suc n) t (slice_get (p ∷ row) (suc n)) ≡ put_first p (bound_at row n t (slice_get row n))
bound_at-later p row n t = at (slice_get row n)
  where
    kept : (b : Bool) → kept_if b (p ∷ row) ≡ put_first p (kept_if b row)
    kept true = refl
    kept false = refl

    at : (o : Option (Option Term)) → bound_at (p ∷ row) (suc n) t o ≡ put_first p (bound_at row n t o)
    at None = refl
    at (Some None) = refl
    at (Some (Some u)) = kept (eq_by_cmp term_cmp u t)

agrees-bound_at : (a row : List (Option Term)) (n : ℕ) (t : Term)
    → agrees_if a (bound_at row n t (slice_get row n)) ≡ (agrees a row && is_term (slice_index_or a n None) t)
agrees-bound_at [] [] n t = refl
agrees-bound_at (v ∷ vs) [] n t = refl
agrees-bound_at [] (None ∷ row) zero t = refl
agrees-bound_at [] (Some u ∷ row) zero t = agrees-kept_if [] (Some u ∷ row) (eq_by_cmp term_cmp u t)
agrees-bound_at (v ∷ vs) (None ∷ row) zero t = and_comm (is_term v t) (agrees vs row)
agrees-bound_at (v ∷ vs) (Some u ∷ row) zero t = agrees-kept_if (v ∷ vs) (Some u ∷ row) (eq_by_cmp term_cmp u t) ∙ same_place v u t (agrees vs row)
agrees-bound_at [] (p ∷ row) (suc n) t = ap (agrees_if []) (bound_at-later p row n t) ∙ at (bound_at row n t (slice_get row n))
  where
    at : (o : Option (List (Option Term))) → agrees_if [] (put_first p o) ≡ false
    at None = refl
    at (Some r) = refl
agrees-bound_at (v ∷ vs) (None ∷ row) (suc n) t =
    ap (agrees_if (v ∷ vs)) (bound_at-later None row n t) ∙ at (bound_at row n t (slice_get row n)) ∙ agrees-bound_at vs row n t
  where
    at : (o : Option (List (Option Term))) → agrees_if (v ∷ vs) (put_first None o) ≡ agrees_if vs o
    at None = refl
    at (Some r) = refl
agrees-bound_at (v ∷ vs) (Some u ∷ row) (suc n) t =
    ap (agrees_if (v ∷ vs)) (bound_at-later (Some u) row n t) ∙ at (bound_at row n t (slice_get row n)) ∙ ap (λ b. is_term v u && b) (agrees-bound_at vs row n t)
    ∙ and_assoc (is_term v u) (agrees vs row) (is_term (slice_index_or vs n None) t)
  where
    at : (o : Option (List (Option Term))) → agrees_if (v ∷ vs) (put_first (Some u) o) ≡ (is_term v u && agrees_if vs o)
    at None = and_false (is_term v u)
    at (Some r) = refl

-- A row agrees with one in which a part has a value where it agrees with that before, and has this value itself.
agrees-bound : (part : Part) (t : Term) (a row : List (Option Term)) → agrees_if a (bound part t row) ≡ (agrees a row && is_term (part_value a part) t)
agrees-bound (Given u) t a row = agrees-kept_if a row (eq_by_cmp term_cmp u t)
agrees-bound (Unknown n) t a row = agrees-bound_at a row n t
agrees-bound Unbound t a row = and_false (agrees a row)

-- whether a row's graph is this one
abbrev pub is_reached : List (Option Term) → Reach → Graph → Bool
is_reached a Anywhere c = true
is_reached a (In part) Absent = false
is_reached a (In part) (Named t) = is_term (part_value a part) t

agrees-reached : (reach : Reach) (c : Graph) (a row : List (Option Term)) → agrees_if a (reached reach c row) ≡ (agrees a row && is_reached a reach c)
agrees-reached Anywhere c a row = and_true (agrees a row)
agrees-reached (In part) Absent a row = and_false (agrees a row)
agrees-reached (In part) (Named t) a row = agrees-bound part t a row

-- one after another
agrees-then : (a : List (Option Term)) (f : List (Option Term) → Option (List (Option Term))) (b : Bool)
    → ((row : List (Option Term)) → agrees_if a (f row) ≡ (agrees a row && b)) → (o : Option (List (Option Term))) → agrees_if a (option_and_then f o) ≡ (agrees_if a o && b)
agrees-then a f b h None = refl
agrees-then a f b h (Some row) = h row

-- the quad is what the row makes of the step
abbrev pub fits_step : List (Option Term) → Step → Statement → Bool
fits_step a step q = is_term (part_value a step.s) q.s && (is_term (part_value a step.p) q.p && (is_term (part_value a step.o) q.o && is_reached a step.reach q.c))

-- A row agrees with the one that a quad makes of another where it agrees with that, and the quad is what it makes of the step.
pub agrees-extended : (a row : List (Option Term)) (step : Step) (q : Statement) → agrees_if a (extended row step q) ≡ (agrees a row && fits_step a step q)
unfolding extended
agrees-extended a row step q =
    let s = is_term (part_value a step.s) q.s in
    let p = is_term (part_value a step.p) q.p in
    let o = is_term (part_value a step.o) q.o in
    let c = is_reached a step.reach q.c in
    let first = bound step.s q.s row in
    let second = option_and_then (bound step.p q.p) first in
    let third = option_and_then (bound step.o q.o) second in
    agrees-then a (reached step.reach q.c) c (agrees-reached step.reach q.c a) third
    ∙ ap (λ b. b && c) (agrees-then a (bound step.o q.o) o (agrees-bound step.o q.o a) second)
    ∙ ap (λ b. (b && o) && c) (agrees-then a (bound step.p q.p) p (agrees-bound step.p q.p a) first)
    ∙ ap (λ b. ((b && p) && o) && c) (agrees-bound step.s q.s a row)
    ∙ regroup (agrees a row) s p o c
  where
    regroup : (a s p o c : Bool) → (((((a && s) && p) && o) && c)) ≡ (a && (s && (p && (o && c))))
    regroup true true true true c = refl
    regroup true true true false c = refl
    regroup true true false o c = refl
    regroup true false p o c = refl
    regroup false s p o c = refl
