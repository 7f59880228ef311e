-- What the tests of terms, graphs and quads tell.
use Rattle.std.proofs.Common.{◌≡◌, List, [], ◌∷◌, Bool, true, false, ◌&&◌, Option, Some, None, refl, sym, ap, All, inl, inr}
use Rattle.std.specs.List.{list_all}
use Rattle.std.specs.Ordering.{eq_by_cmp}
use Rattle.std.proofs.lemmas.List.Elements.{All-nil, All-cons, All-head, All-tail}
use Rattle.rdf_term.specs.Order.{term_cmp, graph_cmp}
use Rattle.rdf_term.specs.SameLaws.{term_same, graph_same}
use Rattle.rdf_term.specs.Statement.{Statement}
use Rattle.rdf_term.specs.Terms.{IsResource, IsIri}
use Rattle.rdf_term.specs.Validity.{is_valid}
use Rattle.rdf_term.specs.declared.term.Term.{Term}
use Rattle.rdf_term.specs.declared.term.Term.TheVariants.{Iri, Blank, Plain, Tagged, Typed}
use Rattle.rdf_term.specs.declared.graph.Graph.{Graph}
use Rattle.rdf_term.specs.declared.graph.Graph.TheVariants.{Absent, Named}
use Rattle.nquads.specs.Written.{IsWritable}
use Rattle.media.specs.declared.form.Form.{Form}
use Rattle.media.specs.declared.form.Form.TheVariants.{NQuads, XNQuads, NTriples, PlainTriples, ResultsJson, Json, Boolean, PlainText}
use Rattle.repo_api.specs.Accepts.{quad_forms, table_forms, truth_forms}
use Rattle.api_requests.specs.Spellable.{IsAmong, IsContextGraph, IsGiven, IsAnyTerm}
use Rattle.api_requests.specs.Tests.{is_resource, is_iri, is_valid_resource, is_context, is_writable, is_subject, is_predicate, is_object, is_table, is_truth, is_quad_form, is_plain, same_part}
use Rattle.api_requests.proofs.ByteLemmas.{first_of, second_of}

pub both : (a b : Bool) → a ≡ true → b ≡ true → (a && b) ≡ true
both true b e f = f
both false b e f = e

pub resource_told : (t : Term) → is_resource t ≡ true → IsResource t
resource_told (Iri t) e = tt
resource_told (Blank t) e = tt
resource_told (Plain t) e = cc
resource_told (Tagged t u) e = cc
resource_told (Typed t u) e = cc

pub resource_is : (t : Term) → IsResource t → is_resource t ≡ true
resource_is (Iri t) x = refl
resource_is (Blank t) x = refl
resource_is (Plain t) x = absurd x
resource_is (Tagged t u) x = absurd x
resource_is (Typed t u) x = absurd x

iri_told : (t : Term) → is_iri t ≡ true → IsIri t
iri_told (Iri t) e = tt
iri_told (Blank t) e = cc
iri_told (Plain t) e = cc
iri_told (Tagged t u) e = cc
iri_told (Typed t u) e = cc

iri_is : (t : Term) → IsIri t → is_iri t ≡ true
iri_is (Iri t) x = refl
iri_is (Blank t) x = absurd x
iri_is (Plain t) x = absurd x
iri_is (Tagged t u) x = absurd x
iri_is (Typed t u) x = absurd x

pub context_told : (g : Graph) → is_context g ≡ true → IsContextGraph g
context_told Absent e = (tt, tt)
context_told (Named t) e = (first_of (is_valid t) (is_resource t) e, resource_told t (second_of (is_valid t) (is_resource t) e))

pub context_is : (g : Graph) → IsContextGraph g → is_context g ≡ true
context_is Absent x = refl
context_is (Named t) x = both (is_valid t) (is_resource t) x.0 (resource_is t x.1)

pub writable_told : (q : Statement) → is_writable q ≡ true → IsWritable q
writable_told q e =
    let s = first_of (is_valid_resource q.s) _ e in
    let a = second_of (is_valid_resource q.s) _ e in
    let p' = first_of (is_valid q.p) _ a in
    let b = second_of (is_valid q.p) _ a in
    let iri = first_of (is_iri q.p) _ b in
    let d = second_of (is_iri q.p) _ b in
    let o = first_of (is_valid q.o) (is_context q.c) d in
    let c = context_told q.c (second_of (is_valid q.o) (is_context q.c) d) in (
      record { subject = resource_told q.s (second_of (is_valid q.s) (is_resource q.s) s); predicate = iri_told q.p iri; graph = c.1 },
      (first_of (is_valid q.s) (is_resource q.s) s, p', o, c.0),
    )

pub writable_is : (q : Statement) → IsWritable q → is_writable q ≡ true
writable_is q x =
    both _ _ (both _ _ x.1.0 (resource_is q.s x.0.subject)) (both _ _ x.1.1 (both _ _ (iri_is q.p x.0.predicate) (both _ _ x.1.2 (context_is q.c (x.1.3, x.0.graph)))))

pub subject_told : (part : Option Term) → is_subject part ≡ true → IsGiven IsResource part
subject_told None e = tt
subject_told (Some t) e = (first_of (is_valid t) (is_resource t) e, resource_told t (second_of (is_valid t) (is_resource t) e))

pub subject_is : (part : Option Term) → IsGiven IsResource part → is_subject part ≡ true
subject_is None x = refl
subject_is (Some t) x = both _ _ x.0 (resource_is t x.1)

pub predicate_told : (part : Option Term) → is_predicate part ≡ true → IsGiven IsIri part
predicate_told None e = tt
predicate_told (Some t) e = (first_of (is_valid t) (is_iri t) e, iri_told t (second_of (is_valid t) (is_iri t) e))

pub predicate_is : (part : Option Term) → IsGiven IsIri part → is_predicate part ≡ true
predicate_is None x = refl
predicate_is (Some t) x = both _ _ x.0 (iri_is t x.1)

pub object_told : (part : Option Term) → is_object part ≡ true → IsGiven IsAnyTerm part
object_told None e = tt
object_told (Some t) e = (e, tt)

pub object_is : (part : Option Term) → IsGiven IsAnyTerm part → is_object part ≡ true
object_is None x = refl
object_is (Some t) x = x.0

pub same_term : (t : Term) → eq_by_cmp term_cmp t t ≡ true
same_term t = (term_same t t).1 refl

pub same_graph : (g : Graph) → eq_by_cmp graph_cmp g g ≡ true
same_graph g = (graph_same g g).1 refl

pub part_told : (a b : Option Term) → same_part a b ≡ true → b ≡ a
part_told None None e = refl
part_told None (Some u) e = cc
part_told (Some t) None e = cc
part_told (Some t) (Some u) e = ap Some (sym ((term_same t u).0 e))

pub part_is : (a : Option Term) → same_part a a ≡ true
part_is None = refl
part_is (Some t) = same_term t

-- forms

pub table_told : (form : Form) → is_table form ≡ true → IsAmong table_forms form
table_told NQuads e = cc
table_told XNQuads e = cc
table_told NTriples e = cc
table_told PlainTriples e = cc
table_told ResultsJson e = inl refl
table_told Json e = inr (inl refl)
table_told Boolean e = cc
table_told PlainText e = cc

pub table_is : (form : Form) → IsAmong table_forms form → is_table form ≡ true
table_is form (inl e) = ap is_table e
table_is form (inr (inl e)) = ap is_table e
table_is form (inr (inr never)) = absurd never

pub truth_told : (form : Form) → is_truth form ≡ true → IsAmong truth_forms form
truth_told NQuads e = cc
truth_told XNQuads e = cc
truth_told NTriples e = cc
truth_told PlainTriples e = cc
truth_told ResultsJson e = inl refl
truth_told Boolean e = inr (inl refl)
truth_told Json e = inr (inr (inl refl))
truth_told PlainText e = cc

pub truth_is : (form : Form) → IsAmong truth_forms form → is_truth form ≡ true
truth_is form (inl e) = ap is_truth e
truth_is form (inr (inl e)) = ap is_truth e
truth_is form (inr (inr (inl e))) = ap is_truth e
truth_is form (inr (inr (inr never))) = absurd never

pub quad_told : (form : Form) → is_quad_form form ≡ true → IsAmong quad_forms form
quad_told NQuads e = inl refl
quad_told NTriples e = inr (inl refl)
quad_told XNQuads e = inr (inr (inl refl))
quad_told PlainTriples e = inr (inr (inr (inl refl)))
quad_told ResultsJson e = cc
quad_told Json e = cc
quad_told Boolean e = cc
quad_told PlainText e = cc

pub quad_is : (form : Form) → IsAmong quad_forms form → is_quad_form form ≡ true
quad_is form (inl e) = ap is_quad_form e
quad_is form (inr (inl e)) = ap is_quad_form e
quad_is form (inr (inr (inl e))) = ap is_quad_form e
quad_is form (inr (inr (inr (inl e)))) = ap is_quad_form e
quad_is form (inr (inr (inr (inr never)))) = absurd never

pub plain_told : (form : Form) → is_plain form ≡ true → form ≡ PlainText
plain_told NQuads e = cc
plain_told XNQuads e = cc
plain_told NTriples e = cc
plain_told PlainTriples e = cc
plain_told ResultsJson e = cc
plain_told Json e = cc
plain_told Boolean e = cc
plain_told PlainText e = refl

-- lists

pub each_told : {A : Type 0} (P : A → Type 0) (test : A → Bool) → ((x : A) → test x ≡ true → P x) → (xs : List A) → list_all test xs ≡ true → All P xs
each_told P test told [] e = All-nil P
each_told P test told (x ∷ xs) e = All-cons P x xs (told x (first_of (test x) (list_all test xs) e)) (each_told P test told xs (second_of (test x) (list_all test xs) e))

pub each_is : {A : Type 0} (P : A → Type 0) (test : A → Bool) → ((x : A) → P x → test x ≡ true) → (xs : List A) → All P xs → list_all test xs ≡ true
each_is P test is [] all = refl
each_is P test is (x ∷ xs) all = both (test x) (list_all test xs) (is x (All-head P x xs all)) (each_is P test is xs (All-tail P x xs all))

pub plain_is : (form : Form) → form ≡ PlainText → is_plain form ≡ true
plain_is form e = ap is_plain e
