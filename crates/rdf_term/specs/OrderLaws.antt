-- The orders are total, and two values tie only where they are equal.
use Rattle.std.specs.Prelude.{◌≡◌, ℕ, List, [], ◌∷◌, Some, None, refl, encode_utf8_all}
use Rattle.std.specs.Option.{option_cmp}
use Rattle.std.proofs.Common.{sym, ◌∙◌, ap, subst, suc, zero}
use Rattle.std.specs.Ordering.{on, ordering_then}
use Rattle.std.specs.Cmp.{IsTotalOrder}
use Rattle.std.specs.Cmp.Lexicographic.{slice_cmp, options_total}
use Rattle.std.specs.declared.cmp.Ordering.{Ordering}
use Rattle.std.specs.declared.cmp.Ordering.TheVariants.{Less, Equal, Greater}
use Rattle.std.proofs.lemmas.Cmp.{on_total, then_total, nat_cmp_total, lists_total}
use Rattle.std.proofs.lemmas.Map.Lookups.{CmpEqualImpliesEq, exact_unsigned, exact_bytes}
use Rattle.std.proofs.lemmas.Str.{encodes_same}
use Rattle.rdf_term.specs.declared.term.Term.{Term}
use Rattle.rdf_term.specs.declared.term.Term.TheVariants.{Iri, Blank, Plain, Tagged, Typed}
use Rattle.rdf_term.specs.declared.graph.Graph.{Graph}
use Rattle.rdf_term.specs.declared.graph.Graph.TheVariants.{Absent, Named}
use Rattle.rdf_term.specs.TextOrder.{text_cmp, text_total}
use Rattle.rdf_term.specs.Terms.{kind, first, second}
use Rattle.rdf_term.specs.Order.{term_cmp, graph_cmp, quad_cmp, row_cmp}

-- total orders

pub term_total : IsTotalOrder term_cmp
term_total = then_total (on_total kind nat_cmp_total) (then_total (on_total first text_total) (on_total second text_total))

names : Graph → List Term
names Absent = []
names (Named t) = t ∷ []

then_Equal : (o : Ordering) → ordering_then o Equal ≡ o
then_Equal Less = refl
then_Equal Equal = refl
then_Equal Greater = refl

by_names : (g h : Graph) → on names (slice_cmp term_cmp) g h ≡ graph_cmp g h
unfolding names
by_names Absent Absent = refl
by_names Absent (Named t) = refl
by_names (Named t) Absent = refl
by_names (Named t) (Named u) = then_Equal (term_cmp t u)

pub graph_total : IsTotalOrder graph_cmp
graph_total = subst IsTotalOrder (λ i g h. by_names g h i) (on_total names (lists_total term_total))

pub quad_total : IsTotalOrder quad_cmp
quad_total = then_total (on_total (λ q. q.s) term_total) (then_total (on_total (λ q. q.p) term_total)
    (then_total (on_total (λ q. q.o) term_total) (on_total (λ q. q.c) graph_total)))

pub row_total : IsTotalOrder row_cmp
row_total = lists_total (options_total term_total)

-- only a value itself is as high as it

both_Equal : (a b : Ordering) → ordering_then a b ≡ Equal → (a ≡ Equal) × (b ≡ Equal)
both_Equal Less b e = cc
both_Equal Equal b e = (refl, e)
both_Equal Greater b e = cc

pub text_exact : CmpEqualImpliesEq text_cmp
text_exact x y e = encodes_same x y (exact_bytes (encode_utf8_all x) (encode_utf8_all y) e)

-- a term is known by its kind and its texts
made : ℕ → List ℕ → List ℕ → Term
made zero t u = Iri t
made (suc zero) t u = Blank t
made (suc (suc zero)) t u = Plain t
made (suc (suc (suc zero))) t u = Tagged t u
made (suc (suc (suc (suc n)))) t u = Typed t u

made_again : (t : Term) → made (kind t) (first t) (second t) ≡ t
unfolding made
made_again (Iri t) = refl
made_again (Blank t) = refl
made_again (Plain t) = refl
made_again (Tagged t u) = refl
made_again (Typed t u) = refl

pub term_exact : CmpEqualImpliesEq term_cmp
term_exact x y e =
    let a = both_Equal _ _ e in
    let b = both_Equal _ _ a.1 in
    let k = exact_unsigned (kind x) (kind y) a.0 in
    let f = text_exact (first x) (first y) b.0 in
    let g = text_exact (second x) (second y) b.1 in
    sym (made_again x) ∙ (λ i. made (k i) (f i) (g i)) ∙ made_again y

pub graph_exact : CmpEqualImpliesEq graph_cmp
graph_exact Absent Absent e = refl
graph_exact Absent (Named t) e = cc
graph_exact (Named t) Absent e = cc
graph_exact (Named t) (Named u) e = ap Named (term_exact t u e)

pub quad_exact : CmpEqualImpliesEq quad_cmp
quad_exact x y e =
    let a = both_Equal _ _ e in
    let b = both_Equal _ _ a.1 in
    let d = both_Equal _ _ b.1 in
    λ i. record { s = term_exact x.s y.s a.0 i; p = term_exact x.p y.p b.0 i; o = term_exact x.o y.o d.0 i; c = graph_exact x.c y.c d.1 i }

option_exact : {X : Type 0} {R : X → X → Ordering} → CmpEqualImpliesEq R → CmpEqualImpliesEq (option_cmp R)
option_exact exact None None e = refl
option_exact exact None (Some y) e = cc
option_exact exact (Some x) None e = cc
option_exact exact (Some x) (Some y) e = ap Some (exact x y e)

list_exact : {X : Type 0} {R : X → X → Ordering} → CmpEqualImpliesEq R → CmpEqualImpliesEq (slice_cmp R)
list_exact exact [] [] e = refl
list_exact exact [] (y ∷ ys) e = cc
list_exact exact (x ∷ xs) [] e = cc
list_exact exact (x ∷ xs) (y ∷ ys) e =
    let a = both_Equal _ _ e in
    λ i. exact x y a.0 i ∷ list_exact exact xs ys a.1 i

pub row_exact : CmpEqualImpliesEq row_cmp
row_exact = list_exact (option_exact term_exact)
