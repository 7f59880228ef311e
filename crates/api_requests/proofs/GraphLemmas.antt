-- Graphs that contexts name are read again.
use Rattle.std.proofs.Common.{◌≡◌, ◌<◌, ◌+◌, ℕ, Bool, true, false, List, [], ◌∷◌, ◌++◌, Option, Some, None, map, refl, ◌∙◌, sym, ap, subst, append_assoc, append-nil, length, length-append, arith, fold, inl, inr, ◌⊎◌, codes}
use Rattle.std.specs.List.{list_any, AllByRecursion}
use Rattle.std.specs.Ordering.{eq_by_cmp}
use Rattle.std.specs.Str.{IsUtf8}
use Rattle.std.proofs.lemmas.Bool.{cond-false}
use Rattle.std.proofs.lemmas.List.{get_or_append_left, get_or-append-add}
use Rattle.std.proofs.lemmas.List.Elements.{recursion_from_All}
use Rattle.std.proofs.lemmas.Map.Views.{Contains-from_any}
use Rattle.rdf_term.specs.EachOnce.{EachOnce}
use Rattle.rdf_term.specs.Order.{graph_cmp}
use Rattle.rdf_term.specs.SameLaws.{graph_same}
use Rattle.rdf_term.specs.Terms.{IsResource, IsIri}
use Rattle.rdf_term.specs.Validity.{IsValidTerm, is_part, is_short, is_label, is_tag, is_iri_text, xsd_string}
use Rattle.rdf_term.specs.declared.term.Term.{Term}
use Rattle.rdf_term.specs.declared.term.Term.TheVariants.{Iri, Blank, Plain, Tagged, Typed}
use Rattle.rdf_term.specs.declared.graph.Graph.{Graph}
use Rattle.rdf_term.specs.declared.graph.Graph.TheVariants.{Absent, Named}
use Rattle.nquads_line.specs.Grammar.{IsShortTerm}
use Rattle.nquads_line.specs.Laws.{TermsReadAgain}
use Rattle.std.specs.Str.{all_scalars, bytes_eq}
use Rattle.std.specs.Prelude.{◌&&◌, not}
use Rattle.api_parts.specs.Parameters.{values_of}
use Rattle.api_parts.specs.declared.selection.Selection.{Selection}
use Rattle.api_parts.specs.Selections.{IsPart, IsContext, AreContexts, none, one, IsContexts, IsSelection, with_graph, each_once}
use Rattle.api_requests.specs.Requests.{term_value, graph_value, context_pairs, part_pairs, selection_pairs}
use Rattle.api_requests.specs.Spellable.{IsGiven, IsAnyTerm, IsContextGraph, AreContextGraphs, IsSelectable}
use Rattle.api_requests.proofs.ByteLemmas.{first_of, second_of}
use Rattle.api_requests.proofs.ParameterLemmas.{IsTextPair}

-- distinct graphs are what is left of them

true_or_false : (b : Bool) → (b ≡ true) ⊎ (b ≡ false)
true_or_false true = inl refl
true_or_false false = inr refl

length_more : (a : List Graph) (b : Graph) (c : List Graph) → length a < length (a ++ b ∷ c)
length_more a b c = simp length-append (omega arith)

not_yet : (gs : List Graph) (g : Graph) (more : List Graph) → EachOnce (gs ++ g ∷ more) → list_any (eq_by_cmp graph_cmp g) gs ≡ false
not_yet gs g more once =
    elim (true_or_false (list_any (eq_by_cmp graph_cmp g) gs)) [
      | inl h ↦ (let w = Contains-from_any (λ (x y : Graph) (e : eq_by_cmp graph_cmp x y ≡ true). (graph_same x y).0 e) g gs h in
          absurd (once w.0 (length gs + 0) g (omega (arith, w.1)) (omega (arith, length_more gs g more))
          (get_or_append_left gs (g ∷ more) g w.0 w.1 ∙ w.2 ∙ sym (get_or-append-add gs (g ∷ more) 0 g))))
      | inr h ↦ h
    ]

folded : (gs more : List Graph) → EachOnce (gs ++ more) → fold with_graph gs more ≡ gs ++ more
folded gs [] once = sym (append-nil gs)
folded gs (g ∷ more) once =
    let e : gs ++ g ∷ more ≡ (gs ++ g ∷ []) ++ more = sym (append_assoc gs (g ∷ []) more) in
    ap (λ (before : List Graph). fold with_graph before more) (cond-false _ gs (gs ++ g ∷ []) (not_yet gs g more once))
    ∙ folded (gs ++ g ∷ []) more (subst (λ (all : List Graph). EachOnce all) e once) ∙ sym e

each_once_same : (gs : List Graph) → EachOnce gs → each_once gs ≡ gs
each_once_same gs once = folded [] gs once

-- a valid term is short

no_part : is_short [] ≡ true
no_part = refl

both_true : (a b : Bool) → a ≡ true → b ≡ true → (a && b) ≡ true
both_true true b e f = f
both_true false b e f = e

part_is_short : (part : List ℕ) → is_part part ≡ true → is_short part ≡ true
part_is_short part e = second_of (all_scalars part) (is_short part) e

pub valid_is_short : (t : Term) → IsValidTerm t → IsShortTerm t
valid_is_short (Iri iri) v = both_true (is_short iri) (is_short []) (part_is_short iri (first_of (is_part iri) (is_iri_text iri) v)) no_part
valid_is_short (Blank label) v = both_true (is_short label) (is_short []) (part_is_short label (first_of (is_part label) (is_label label) v)) no_part
valid_is_short (Plain text) v = both_true (is_short text) (is_short []) (part_is_short text v) no_part
valid_is_short (Tagged text tag) v =
    let parts = first_of (is_part text && is_part tag) (is_tag tag) v in
    both_true (is_short text) (is_short tag) (part_is_short text (first_of (is_part text) (is_part tag) parts)) (part_is_short tag (second_of (is_part text) (is_part tag) parts))
valid_is_short (Typed text datatype) v =
    let three = first_of ((is_part text && is_part datatype) && is_iri_text datatype) (not (bytes_eq datatype xsd_string)) v in
    let parts = first_of (is_part text && is_part datatype) (is_iri_text datatype) three in
    both_true (is_short text) (is_short datatype) (part_is_short text (first_of (is_part text) (is_part datatype) parts)) (part_is_short datatype (second_of (is_part text) (is_part datatype) parts))

-- values

pub value_utf8 : TermsReadAgain → (t : Term) → IsValidTerm t → IsUtf8 (term_value t)
value_utf8 terms t valid = let x = terms t valid in (x.0, (x.1, x.2))

context_again : TermsReadAgain → (g : Graph) → IsContextGraph g → IsContext (graph_value g) g
context_again terms Absent is = refl
context_again terms (Named t) is = record { text = terms t is.0; short = valid_is_short t is.0; fits = is.1 }

null_utf8 : IsUtf8 (codes "null")
unfolding lib.Utf8.encode
null_utf8 = (codes "null", (refl, refl))

context_utf8 : TermsReadAgain → (g : Graph) → IsContextGraph g → IsUtf8 (graph_value g)
context_utf8 terms Absent is = null_utf8
context_utf8 terms (Named t) is = value_utf8 terms t is.0

contexts_again : TermsReadAgain → (gs : List Graph) → AllByRecursion IsContextGraph gs → AreContexts (map graph_value gs) gs
contexts_again terms [] all = none
contexts_again terms (g ∷ gs) all = one (context_again terms g all.0) (contexts_again terms gs all.1)

-- the values of the parameters `context`
pub values_of_contexts : (gs : List Graph) → values_of (codes "context") (context_pairs gs) ≡ map graph_value gs
values_of_contexts [] = refl
values_of_contexts (g ∷ gs) = ap (λ (values : List (List ℕ)). graph_value g ∷ values) (values_of_contexts gs)

no_subject : (gs : List Graph) → values_of (codes "subj") (context_pairs gs) ≡ []
no_subject [] = refl
no_subject (g ∷ gs) = no_subject gs

no_predicate : (gs : List Graph) → values_of (codes "pred") (context_pairs gs) ≡ []
no_predicate [] = refl
no_predicate (g ∷ gs) = no_predicate gs

no_object : (gs : List Graph) → values_of (codes "obj") (context_pairs gs) ≡ []
no_object [] = refl
no_object (g ∷ gs) = no_object gs

-- graphs by the values of `context` among parameters
pub graphs_by : TermsReadAgain → (pairs : List (List ℕ × List ℕ)) (gs : List Graph) → AreContextGraphs gs → values_of (codes "context") pairs ≡ map graph_value gs → IsContexts pairs gs
graphs_by terms pairs gs are e =
    (gs, subst (λ (values : List (List ℕ)). AreContexts values gs) (sym e) (contexts_again terms gs (recursion_from_All IsContextGraph gs are.each)), sym (each_once_same gs are.once))

pub contexts_are : TermsReadAgain → (gs : List Graph) → AreContextGraphs gs → IsContexts (context_pairs gs) gs
contexts_are terms gs are = graphs_by terms (context_pairs gs) gs are (values_of_contexts gs)

-- parts

abbrev PartValues : Option Term → List (List ℕ)
PartValues None = []
PartValues (Some t) = term_value t ∷ []

-- The values of a parameter that gives this part, under any relation that says which part values give: the kinds of terms that
-- parameters take have no names here.
part_again : (Gives : List (List ℕ) → Option Term → Type 0) (MayStand : Term → Type 0) (part : Option Term) (values : List (List ℕ)) → Gives [] None
    → ((t : Term) → IsValidTerm t → MayStand t → Gives (term_value t ∷ []) (Some t)) → IsGiven MayStand part → values ≡ PartValues part → Gives values part
part_again Gives MayStand None values nothing alone is e = subst (λ (vs : List (List ℕ)). Gives vs None) (sym e) nothing
part_again Gives MayStand (Some t) values nothing alone is e = subst (λ (vs : List (List ℕ)). Gives vs (Some t)) (sym e) (alone t is.0 is.1)

-- the values of each parameter of a selection
subjects : (s p o : Option Term) (gs : List Graph)
    → values_of (codes "subj") (part_pairs (codes "subj") s ++ part_pairs (codes "pred") p ++ part_pairs (codes "obj") o ++ context_pairs gs) ≡ PartValues s
subjects None None None gs = no_subject gs
subjects None None (Some o) gs = no_subject gs
subjects None (Some p) None gs = no_subject gs
subjects None (Some p) (Some o) gs = no_subject gs
subjects (Some s) None None gs = ap (λ (values : List (List ℕ)). term_value s ∷ values) (no_subject gs)
subjects (Some s) None (Some o) gs = ap (λ (values : List (List ℕ)). term_value s ∷ values) (no_subject gs)
subjects (Some s) (Some p) None gs = ap (λ (values : List (List ℕ)). term_value s ∷ values) (no_subject gs)
subjects (Some s) (Some p) (Some o) gs = ap (λ (values : List (List ℕ)). term_value s ∷ values) (no_subject gs)

predicates : (s p o : Option Term) (gs : List Graph)
    → values_of (codes "pred") (part_pairs (codes "subj") s ++ part_pairs (codes "pred") p ++ part_pairs (codes "obj") o ++ context_pairs gs) ≡ PartValues p
predicates None None None gs = no_predicate gs
predicates None None (Some o) gs = no_predicate gs
predicates (Some s) None None gs = no_predicate gs
predicates (Some s) None (Some o) gs = no_predicate gs
predicates None (Some p) None gs = ap (λ (values : List (List ℕ)). term_value p ∷ values) (no_predicate gs)
predicates None (Some p) (Some o) gs = ap (λ (values : List (List ℕ)). term_value p ∷ values) (no_predicate gs)
predicates (Some s) (Some p) None gs = ap (λ (values : List (List ℕ)). term_value p ∷ values) (no_predicate gs)
predicates (Some s) (Some p) (Some o) gs = ap (λ (values : List (List ℕ)). term_value p ∷ values) (no_predicate gs)

objects : (s p o : Option Term) (gs : List Graph)
    → values_of (codes "obj") (part_pairs (codes "subj") s ++ part_pairs (codes "pred") p ++ part_pairs (codes "obj") o ++ context_pairs gs) ≡ PartValues o
objects None None None gs = no_object gs
objects None (Some p) None gs = no_object gs
objects (Some s) None None gs = no_object gs
objects (Some s) (Some p) None gs = no_object gs
objects None None (Some o) gs = ap (λ (values : List (List ℕ)). term_value o ∷ values) (no_object gs)
objects None (Some p) (Some o) gs = ap (λ (values : List (List ℕ)). term_value o ∷ values) (no_object gs)
objects (Some s) None (Some o) gs = ap (λ (values : List (List ℕ)). term_value o ∷ values) (no_object gs)
objects (Some s) (Some p) (Some o) gs = ap (λ (values : List (List ℕ)). term_value o ∷ values) (no_object gs)

graph_values : (s p o : Option Term) (gs : List Graph)
    → values_of (codes "context") (part_pairs (codes "subj") s ++ part_pairs (codes "pred") p ++ part_pairs (codes "obj") o ++ context_pairs gs) ≡ map graph_value gs
graph_values None None None gs = values_of_contexts gs
graph_values None None (Some o) gs = values_of_contexts gs
graph_values None (Some p) None gs = values_of_contexts gs
graph_values None (Some p) (Some o) gs = values_of_contexts gs
graph_values (Some s) None None gs = values_of_contexts gs
graph_values (Some s) None (Some o) gs = values_of_contexts gs
graph_values (Some s) (Some p) None gs = values_of_contexts gs
graph_values (Some s) (Some p) (Some o) gs = values_of_contexts gs

pub selection_is : TermsReadAgain → (it : Selection) → IsSelectable it → IsSelection (selection_pairs it) it
selection_is terms it is =
    record {
      s =
          part_again (IsPart _) IsResource it.s _ tt (λ t valid fits. record { text = terms t valid; short = valid_is_short t valid; fits = fits }) is.s
          (subjects it.s it.p it.o it.contexts);
      p =
          part_again (IsPart _) IsIri it.p _ tt (λ t valid fits. record { text = terms t valid; short = valid_is_short t valid; fits = fits }) is.p
          (predicates it.s it.p it.o it.contexts);
      o =
          part_again (IsPart _) IsAnyTerm it.o _ tt (λ t valid fits. record { text = terms t valid; short = valid_is_short t valid; fits = fits }) is.o
          (objects it.s it.p it.o it.contexts);
      contexts = graphs_by terms (selection_pairs it) it.contexts is.contexts (graph_values it.s it.p it.o it.contexts);
    }

-- names and values are UTF-8

name_utf8 : IsUtf8 (codes "context") × IsUtf8 (codes "subj") × IsUtf8 (codes "pred") × IsUtf8 (codes "obj")
unfolding lib.Utf8.encode
name_utf8 = ((codes "context", (refl, refl)), (codes "subj", (refl, refl)), (codes "pred", (refl, refl)), (codes "obj", (refl, refl)))

context_texts : TermsReadAgain → (gs : List Graph) → AllByRecursion IsContextGraph gs → AllByRecursion IsTextPair (context_pairs gs)
context_texts terms [] all = tt
context_texts terms (g ∷ gs) all = ((name_utf8.0, context_utf8 terms g all.0), context_texts terms gs all.1)

pub context_pairs_utf8 : TermsReadAgain → (gs : List Graph) → AreContextGraphs gs → AllByRecursion IsTextPair (context_pairs gs)
context_pairs_utf8 terms gs are = context_texts terms gs (recursion_from_All IsContextGraph gs are.each)

part_texts : TermsReadAgain → (MayStand : Term → Type 0) (name : List ℕ) (part : Option Term) (more : List (List ℕ × List ℕ)) → IsUtf8 name → IsGiven MayStand part
    → AllByRecursion IsTextPair more → AllByRecursion IsTextPair (part_pairs name part ++ more)
part_texts terms MayStand name None more u is all = all
part_texts terms MayStand name (Some t) more u is all = ((u, value_utf8 terms t is.0), all)

pub selection_pairs_utf8 : TermsReadAgain → (it : Selection) → IsSelectable it → AllByRecursion IsTextPair (selection_pairs it)
selection_pairs_utf8 terms it is =
    let contexts = context_pairs_utf8 terms it.contexts is.contexts in
    let objects' = part_texts terms IsAnyTerm (codes "obj") it.o (context_pairs it.contexts) name_utf8.3 is.o contexts in
    let predicates' = part_texts terms IsIri (codes "pred") it.p _ name_utf8.2 is.p objects' in
    subst (AllByRecursion IsTextPair)
    (sym (append_assoc (part_pairs (codes "subj") it.s ++ part_pairs (codes "pred") it.p) (part_pairs (codes "obj") it.o) (context_pairs it.contexts)
    ∙ append_assoc (part_pairs (codes "subj") it.s) (part_pairs (codes "pred") it.p) (part_pairs (codes "obj") it.o ++ context_pairs it.contexts)))
    (part_texts terms IsResource (codes "subj") it.s _ name_utf8.1 is.s predicates')
