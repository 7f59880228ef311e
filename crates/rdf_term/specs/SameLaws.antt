-- The order tells whether two values are equal.
use Rattle.std.specs.Prelude.{◌≡◌, ◌↔◌, ℕ, List, Bool, true, IsTrue, refl}
use Rattle.std.specs.Ordering.{eq_by_cmp, is_eq}
use Rattle.std.specs.Cmp.{IsTotalOrder}
use Rattle.std.specs.declared.cmp.Ordering.{Ordering}
use Rattle.std.specs.declared.cmp.Ordering.TheVariants.{Less, Equal, Greater}
use Rattle.std.proofs.Common.{sym, ◌∙◌, ap, subst}
use Rattle.std.proofs.lemmas.Cmp.{tied_itself}
use Rattle.std.proofs.lemmas.Map.Lookups.{CmpEqualImpliesEq}
use Rattle.rdf_term.specs.declared.term.Term.{Term}
use Rattle.rdf_term.specs.declared.graph.Graph.{Graph}
use Rattle.rdf_term.specs.Statement.{Statement}
use Rattle.rdf_term.specs.TextOrder.{text_cmp, text_total}
use Rattle.rdf_term.specs.Order.{term_cmp, graph_cmp, quad_cmp}
use Rattle.rdf_term.specs.OrderLaws.{term_total, graph_total, quad_total, text_exact, term_exact, graph_exact, quad_exact}

is_Equal : (o : Ordering) → is_eq o ≡ true → o ≡ Equal
is_Equal Less e = cc
is_Equal Equal e = refl
is_Equal Greater e = cc

-- where only a value itself is as high as it, the order tells whether two values are equal
pub same_by_cmp : {K : Type 0} {R : K → K → Ordering} → IsTotalOrder R → CmpEqualImpliesEq R
    → (x y : K) (r : Bool) → r ≡ eq_by_cmp R x y → IsTrue r ↔ (x ≡ y)
same_by_cmp {R} total exact x y r e =
    (λ h. exact x y (is_Equal (R x y) (sym e ∙ h)), λ q. e ∙ ap is_eq (subst (λ z. R x z ≡ Equal) q (tied_itself total x)))

pub text_same : (x y : List ℕ) → IsTrue (eq_by_cmp text_cmp x y) ↔ (x ≡ y)
text_same x y = same_by_cmp text_total text_exact x y (eq_by_cmp text_cmp x y) refl

pub term_same : (x y : Term) → IsTrue (eq_by_cmp term_cmp x y) ↔ (x ≡ y)
term_same x y = same_by_cmp term_total term_exact x y (eq_by_cmp term_cmp x y) refl

pub graph_same : (x y : Graph) → IsTrue (eq_by_cmp graph_cmp x y) ↔ (x ≡ y)
graph_same x y = same_by_cmp graph_total graph_exact x y (eq_by_cmp graph_cmp x y) refl

pub quad_same : (x y : Statement) → IsTrue (eq_by_cmp quad_cmp x y) ↔ (x ≡ y)
quad_same x y = same_by_cmp quad_total quad_exact x y (eq_by_cmp quad_cmp x y) refl
