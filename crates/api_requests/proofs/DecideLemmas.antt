-- Tests that decide facts, together.
use Rattle.std.proofs.Common.{◌≡◌, ◌↔◌, IsTrue, Bool, ◌&&◌, List, sym, ◌∙◌}
use Rattle.std.specs.List.{list_all}
use Rattle.rdf_term.specs.EachOnce.{EachOnce}
use Rattle.rdf_term.specs.declared.term.Term.{Term}
use Rattle.rdf_term.specs.declared.graph.Graph.{Graph}
use Rattle.std.specs.Prelude.{Option}
use Rattle.api_requests.specs.Spellable.{IsContextGraph, AreContextGraphs, IsSelectable}
use Rattle.api_requests.specs.Tests.{is_context, is_subject, is_predicate, is_object}
use Rattle.api_requests.proofs.ByteLemmas.{first_of, second_of}
use Rattle.api_requests.proofs.TestLemmas.{both, context_told, context_is, each_told, each_is, subject_told, subject_is, predicate_told, predicate_is, object_told, object_is}

pub both_decide : (a b : Bool) (P Q : Type 0) → IsTrue a ↔ P → IsTrue b ↔ Q → IsTrue (a && b) ↔ (P × Q)
both_decide a b P Q x y = (λ h. (x.0 (first_of a b h), y.0 (second_of a b h)), λ z. both a b (x.1 z.0) (y.1 z.1))

pub three_decide : (a b d : Bool) (P Q R : Type 0) → IsTrue a ↔ P → IsTrue b ↔ Q → IsTrue d ↔ R → IsTrue (a && b && d) ↔ (P × Q × R)
three_decide a b d P Q R x y z = (
  λ h. (x.0 (first_of a b (first_of (a && b) d h)), y.0 (second_of a b (first_of (a && b) d h)), z.0 (second_of (a && b) d h)),
  λ w. both (a && b) d (both a b (x.1 w.0) (y.1 w.1)) (z.1 w.2),
)

pub contexts_decide : (gs seen : List Graph) (r : Bool) → seen ≡ gs → EachOnce gs → r ≡ list_all is_context seen → IsTrue r ↔ AreContextGraphs gs
contexts_decide gs seen r same once e =
    let f : r ≡ list_all is_context gs = e ∙ (λ i. list_all is_context (same i)) in
    (λ h. record { each = each_told IsContextGraph is_context context_told gs (sym f ∙ h); once = once }, λ x. f ∙ each_is IsContextGraph is_context context_is gs x.each)

pub selection_decides : (s p o : Option Term) (gs : List Graph) (a b d g : Bool) → a ≡ is_subject s → b ≡ is_predicate p → d ≡ is_object o → IsTrue g ↔ AreContextGraphs gs
    → IsTrue (a && b && d && g) ↔ IsSelectable (record { s = s; p = p; o = o; contexts = gs })
selection_decides s p o gs a b d g ea eb ed eg = (
  λ h.
      let three = first_of (a && b && d) g h in
      let two = first_of (a && b) d three in
      record {
        s = subject_told s (sym ea ∙ first_of a b two);
        p = predicate_told p (sym eb ∙ second_of a b two);
        o = object_told o (sym ed ∙ second_of (a && b) d three);
        contexts = eg.0 (second_of (a && b && d) g h);
      },
  λ x. both (a && b && d) g (both (a && b) d (both a b (ea ∙ subject_is s x.s) (eb ∙ predicate_is p x.p)) (ed ∙ object_is o x.o)) (eg.1 x.contexts),
)
