-- Names that are kept each once.
use Rattle.std.proofs.Common.{◌≡◌, ◌<◌, ◌+◌, ◌||◌, ℕ, Bool, true, false, if◌then◌else◌, List, [], ◌∷◌, ◌++◌, refl, ◌∙◌, sym, ap, append_assoc, append-nil, length, length-append, arith, fold, inl, inr}
use Rattle.std.specs.Prelude.{Contains}
use Rattle.std.specs.List.{list_any}
use Rattle.std.specs.Ordering.{eq_by_cmp}
use Rattle.std.proofs.lemmas.Cmp.{eq_by_cmp_equiv}
use Rattle.std.proofs.lemmas.List.{get_or_append_left, get_or-append-add}
use Rattle.std.proofs.lemmas.Map.Views.{Contains-from_any, list_any-from_Contains}
use Rattle.query_print.proofs.Truths.{neither, true_or_false, take_else}
use Rattle.rdf_term.proofs.DistinctLemmas.{EachOnce-push}
use Rattle.rdf_term.proofs.Same.{same_by_cmp}
use Rattle.rdf_term.specs.EachOnce.{EachOnce}
use Rattle.rdf_term.specs.OrderLaws.{text_exact}
use Rattle.rdf_term.specs.TextOrder.{text_cmp, text_total}
use Rattle.query_model.specs.declared.query.Slot.{Slot}
use Rattle.query_model.specs.declared.query.Slot.TheVariants as slot
use Rattle.query_model.specs.declared.query.Scope.{Scope}
use Rattle.query_model.specs.declared.query.Scope.TheVariants as scope
use Rattle.query_model.specs.declared.query.TriplePattern.{TriplePattern}
use Rattle.query_model.specs.WellFormed.{has_variable, is_variable, is_variable_graph}
use Rattle.query_grammar.specs.Names.{with_name, with_slot, with_scope, with_pattern, standing, is_among, firsts}

pub same_name : (x y : List ℕ) → eq_by_cmp text_cmp x y ≡ true → x ≡ y
same_name x y h = (same_by_cmp text_total text_exact x y (eq_by_cmp text_cmp x y) refl).0 h

pub among_is : (names : List (List ℕ)) (name : List ℕ) → is_among names name ≡ true → Contains names name
among_is names name h = Contains-from_any same_name name names h

not_yet : (names : List (List ℕ)) (v : List ℕ) (vs : List (List ℕ)) → EachOnce (names ++ v ∷ vs) → is_among names v ≡ false
not_yet names v vs once =
    elim (true_or_false (is_among names v)) [
      | inl h ↦ (let w = among_is names v h in
          absurd (once w.0 (length names + 0) v (omega (arith, w.1)) (omega (arith, length-more names v vs))
          (get_or_append_left names (v ∷ vs) v w.0 w.1 ∙ w.2 ∙ sym (get_or-append-add names (v ∷ vs) 0 v))))
      | inr h ↦ h
    ]
  where
    length-more : (a : List (List ℕ)) (b : List ℕ) (c : List (List ℕ)) → length a < length (a ++ b ∷ c)
    length-more a b c = simp length-append (omega arith)

folded : (names vs : List (List ℕ)) → EachOnce (names ++ vs) → fold with_name names vs ≡ names ++ vs
unfolding with_name
folded names [] once = sym (append-nil names)
folded names (v ∷ vs) once =
    let e : names ++ v ∷ vs ≡ (names ++ v ∷ []) ++ vs = sym (append_assoc names (v ∷ []) vs) in
    ap (λ ns. fold with_name ns vs) (take_else (is_among names v) names (names ++ v ∷ []) (not_yet names v vs once))
    ∙ folded (names ++ v ∷ []) vs (rw e at once) ∙ sym e

-- distinct names are what is left of them
pub firsts-once : (vs : List (List ℕ)) → EachOnce vs → firsts vs ≡ vs
firsts-once vs once = folded [] vs once

-- one more name leaves them distinct
pub once_more : (names : List (List ℕ)) (v : List ℕ) → EachOnce names → EachOnce (with_name names v)
unfolding with_name
once_more names v once = at (is_among names v) refl
  where
    at : (b : Bool) → is_among names v ≡ b → EachOnce (if b then names else names ++ v ∷ [])
    at true e = once
    at false e = EachOnce-push names v once (λ c. (let z = list_any-from_Contains (eq_by_cmp_equiv text_total) v names c in let y : true ≡ false = sym z ∙ e in cc))

-- No name stands in a group where no variable does

slot_unnamed : (x : Slot) → is_variable x ≡ false → with_slot [] x ≡ []
slot_unnamed (slot.Var n) e = cc
slot_unnamed (slot.Blank l) e = refl
slot_unnamed (slot.Fixed t) e = refl

scope_unnamed : (g : Scope) → is_variable_graph g ≡ false → with_scope [] g ≡ []
scope_unnamed scope.Any e = refl
scope_unnamed (scope.Graph x) e = slot_unnamed x e

pattern_unnamed : (x : TriplePattern) → has_variable x ≡ false → with_pattern [] x ≡ []
unfolding with_pattern
pattern_unnamed x e =
    let a = neither _ _ e in
    let b = neither _ _ a.1 in
    let d = neither _ _ b.1 in
    (λ i. with_slot (with_slot (with_slot (scope_unnamed x.g a.0 i) x.s) x.p) x.o)
    ∙ (λ i. with_slot (with_slot (slot_unnamed x.s b.0 i) x.p) x.o)
    ∙ (λ i. with_slot (slot_unnamed x.p d.0 i) x.o)
    ∙ slot_unnamed x.o d.1

pub none_stands : (group : List TriplePattern) → list_any has_variable group ≡ false → standing group ≡ []
unfolding standing
none_stands [] e = refl
none_stands (x ∷ group) e =
    let parts = neither (has_variable x) (list_any has_variable group) e in
    ap (λ names. fold with_pattern names group) (pattern_unnamed x parts.0) ∙ none_stands group parts.1

-- a name that was added stays

name_stays : (names : List (List ℕ)) (n : List ℕ) → with_name names n ≡ [] → ⊥
unfolding with_name
name_stays [] n e = cc
name_stays (m ∷ names) n e = at (is_among (m ∷ names) n) e
  where
    at : (b : Bool) → (if b then m ∷ names else (m ∷ names) ++ n ∷ []) ≡ [] → ⊥
    at true h = cc
    at false h = cc

slot_named : (names : List (List ℕ)) (x : Slot) → with_slot names x ≡ [] → (names ≡ []) × (is_variable x ≡ false)
slot_named names (slot.Var n) e = absurd (name_stays names n e)
slot_named names (slot.Blank l) e = (e, refl)
slot_named names (slot.Fixed t) e = (e, refl)

scope_named : (names : List (List ℕ)) (g : Scope) → with_scope names g ≡ [] → (names ≡ []) × (is_variable_graph g ≡ false)
scope_named names scope.Any e = (e, refl)
scope_named names (scope.Graph x) e = slot_named names x e

pattern_named : (names : List (List ℕ)) (x : TriplePattern) → with_pattern names x ≡ [] → (names ≡ []) × (has_variable x ≡ false)
unfolding with_pattern
pattern_named names x e =
    let o = slot_named _ x.o e in
    let p = slot_named _ x.p o.0 in
    let s = slot_named _ x.s p.0 in
    let g = scope_named names x.g s.0 in
    (g.0, λ i. g.1 i || (s.1 i || (p.1 i || o.1 i)))

named_from : (group : List TriplePattern) (names : List (List ℕ)) → fold with_pattern names group ≡ [] → (names ≡ []) × (list_any has_variable group ≡ false)
named_from [] names e = (e, refl)
named_from (x ∷ group) names e =
    let later = named_from group (with_pattern names x) e in
    let here = pattern_named names x later.0 in
    (here.0, λ i. here.1 i || later.1 i)

pub stands_none : (group : List TriplePattern) → standing group ≡ [] → list_any has_variable group ≡ false
unfolding standing
stands_none group e = (named_from group [] e).1
