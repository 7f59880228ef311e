-- What parameters select is fixed.
use Rattle.std.proofs.Common.{◌≡◌, ℕ, ◌+◌, ◌<◌, zero, suc, inl, inr, append-nil, List, [], ◌∷◌, ◌++◌, length, take, fold, get_or, Result, Ok, Err, IfOk, ◌==◌, Bool, true, false, Option, Some, None, refl, sym, ap, ◌∙◌, subst, arith, encode_utf8_all, codes}
use Rattle.std.proofs.lemmas.Str.{encodes_same}
use Rattle.std.proofs.lemmas.List.Sums.{fold-append}
use Rattle.rdf_term.specs.declared.term.Term.{Term}
use Rattle.rdf_term.specs.declared.term.Term.TheVariants.{Iri, Blank, Plain, Tagged, Typed}
use Rattle.rdf_term.specs.declared.graph.Graph.{Graph}
use Rattle.rdf_term.specs.declared.graph.Graph.TheVariants.{Absent, Named}
use Rattle.nquads_line.specs.Grammar.{IsTerm, IsShortTerm}
use Rattle.nquads_line.specs.Terms.{IsString, IsTypedText}
use Rattle.rdf_term.specs.Validity.{xsd_string}
use Rattle.nquads_line.proofs.LineLemmas.{term_once}
use Rattle.api_parts.specs.declared.selection.Selection.{Selection}
use Rattle.api_parts.specs.declared.selection.TermKind.{TermKind}
use Rattle.api_parts.specs.declared.selection.TermKind.TheVariants as kinds
use Rattle.api_parts.specs.declared.selection.Parameter.{Parameter}
use Rattle.api_parts.specs.declared.selection.Parameter.TheVariants.{Subject, Predicate, Object, Context}
use Rattle.std.specs.List.{filter_map, list_any}
use Rattle.std.specs.Ordering.{eq_by_cmp}
use Rattle.std.specs.Prelude.{All, if◌then◌else◌}
use Rattle.std.proofs.lemmas.List.Elements.{All-push}
use Rattle.rdf_term.specs.Order.{graph_cmp}
use Rattle.rdf_term.specs.Terms.{IsGraph}
use Rattle.std.proofs.lemmas.List.Elements.{filter_map-append}
use Rattle.std.proofs.Math.Seq.{take-suc}
use Rattle.api_parts.specs.Laws.{BadOrSelection}
use Rattle.api_parts.specs.Parameters.{value_of, values_of}
use Rattle.api_parts.specs.Selections.{IsOfKind, IsTermValue, IsPart, IsContext, AreContexts, none, one, IsContexts, IsSelection, IsFirstBad, IsBad, with_graph, each_once}

-- one term

pub too_long : (value : List ℕ) (t : Term) → (u : Term) × IsTerm value u × (¬ (IsShortTerm u)) → IsTerm value t → IsShortTerm t → ⊥
too_long value t long is short = long.2 (subst IsShortTerm (term_once value t long.0 is long.1) short)

pub other_kind : (kind : TermKind) (value : List ℕ) (t u : Term) → IsTerm value t → (IsOfKind kind t → ⊥) → IsTermValue kind value u → ⊥
other_kind kind value t u is not v = not (subst (IsOfKind kind) (term_once value u t v.text is) v.fits)

one_value : (kind : TermKind) (value : List ℕ) (t u : Term) → IsTermValue kind value t → IsTermValue kind value u → t ≡ u
one_value kind value t u a b = term_once value t u a.text b.text

pub one_part : (kind : TermKind) (values : List (List ℕ)) (a b : Option Term) → IsPart kind values a → IsPart kind values b → a ≡ b
one_part kind [] None None a b = refl
one_part kind [] None (Some u) a b = absurd b
one_part kind [] (Some t) b' a b = absurd a
one_part kind (v ∷ []) None b' a b = absurd a
one_part kind (v ∷ []) (Some t) None a b = absurd b
one_part kind (v ∷ []) (Some t) (Some u) a b = ap Some (one_value kind v t u a b)
one_part kind (v ∷ (w ∷ vs)) a' b' a b = absurd a

-- contexts

-- the characters of `null` are those of no term
null_again : encode_utf8_all (codes "null") ≡ codes "null"
unfolding lib.Utf8.encode
null_again = refl

is_null : (cs : List ℕ) → encode_utf8_all cs ≡ codes "null" → cs ≡ codes "null"
is_null cs e = encodes_same cs (codes "null") (e ∙ sym null_again)

apart : false ≡ true → ⊥
apart e = cc

-- whether a text begins with n
begins : List ℕ → Bool
begins cs = get_or cs 0 0 == 110

no_iri : (rest : List ℕ) → codes "<" ++ rest ≡ codes "null" → ⊥
unfolding begins
no_iri rest e = apart (ap begins e)

no_label : (rest : List ℕ) → codes "_:" ++ rest ≡ codes "null" → ⊥
unfolding begins
no_label rest e = apart (ap begins e)

no_string : (cs text : List ℕ) → IsString cs text → (rest : List ℕ) → cs ++ rest ≡ codes "null" → ⊥
unfolding begins
no_string cs text x rest e =
    let f : codes "\"" ++ (x.inner ++ rest) ≡ codes "null" = ap (λ (y : List ℕ). y ++ rest) (sym x.opened) ∙ e in
    apart (ap begins f)

no_typed : (cs text datatype : List ℕ) → IsTypedText cs text datatype → cs ≡ codes "null" → ⊥
no_typed cs text datatype x e = no_string x.string text x.is_string (x.before ++ (codes "^^" ++ (x.after ++ x.name))) (sym x.written ∙ e)

no_null : (t : Term) → IsTerm (codes "null") t → ⊥
no_null (Iri i) (cs, s, e, x) = no_iri x.inner (sym x.opened ∙ is_null cs e)
no_null (Blank l) (cs, s, e, x) = no_label l (sym x.1 ∙ is_null cs e)
no_null (Plain text) (cs, s, e, inl x) = no_string cs text x [] (append-nil cs ∙ is_null cs e)
no_null (Plain text) (cs, s, e, inr x) = no_typed cs text xsd_string x (is_null cs e)
no_null (Tagged text tag) (cs, s, e, x) = no_string x.string text x.is_string (x.before ++ (codes "@" ++ tag)) (sym x.written ∙ is_null cs e)
no_null (Typed text datatype) (cs, s, e, x) = no_typed cs text datatype x.0 (is_null cs e)

pub one_context : (value : List ℕ) (g h : Graph) → IsContext value g → IsContext value h → g ≡ h
one_context value Absent Absent a b = refl
one_context value Absent (Named u) a b = absurd (no_null u (subst (λ (v : List ℕ). IsTerm v u) a b.text))
one_context value (Named t) Absent a b = absurd (no_null t (subst (λ (v : List ℕ). IsTerm v t) b a.text))
one_context value (Named t) (Named u) a b = ap Named (one_value kinds.Resource value t u a b)

pub one_list : {values : List (List ℕ)} {gs hs : List Graph} → AreContexts values gs → AreContexts values hs → gs ≡ hs
one_list none none = refl
one_list (one {value} {graph = g} x xs) (one {graph = h} y ys) = λ i. one_context value g h x y i ∷ one_list xs ys i

-- one more context

more_contexts : {values : List (List ℕ)} {gs : List Graph} (value : List ℕ) (g : Graph) → AreContexts values gs → IsContext value g → AreContexts (values ++ value ∷ []) (gs ++ g ∷ [])
more_contexts value g none x = one x none
more_contexts value g (one y ys) x = one y (more_contexts value g ys x)

context_at : {values : List (List ℕ)} {gs : List Graph} (i : ℕ) (d : List ℕ) → AreContexts values gs → i < length values → (g : Graph) × IsContext (get_or values i d) g
context_at i d none h = absurd (omega arith)
context_at zero d (one {graph = g} x xs) h = (g, x)
context_at (suc i) d (one x xs) h = context_at i d xs (omega arith)

pub once_more : (gs : List Graph) (g : Graph) → each_once (gs ++ g ∷ []) ≡ with_graph (each_once gs) g
once_more gs g = fold-append with_graph [] gs (g ∷ [])

-- contexts are graphs

graph_of : (value : List ℕ) (g : Graph) → IsContext value g → IsGraph g
graph_of value Absent x = tt
graph_of value (Named t) x = x.fits

with_graph_or : (b : Bool) (gs : List Graph) (g : Graph) → All IsGraph gs → IsGraph g → All IsGraph (if b then gs else gs ++ g ∷ [])
with_graph_or true gs g all is = all
with_graph_or false gs g all is = All-push IsGraph gs g all is

graphs_onto : {values : List (List ℕ)} {gs : List Graph} → AreContexts values gs → (before : List Graph) → All IsGraph before → All IsGraph (fold with_graph before gs)
graphs_onto none before all = all
graphs_onto (one {value} {graph = g} x xs) before all =
    graphs_onto xs (with_graph before g) (with_graph_or (list_any (eq_by_cmp graph_cmp g) before) before g all (graph_of value g x))

no_graphs : All IsGraph []
no_graphs k d h = absurd (omega arith)

once_graphs : (values : List (List ℕ)) (contexts : List Graph) → (graphs : List Graph) × AreContexts values graphs × (contexts ≡ each_once graphs) → All IsGraph contexts
once_graphs values contexts x = subst (All IsGraph) (sym x.2) (graphs_onto x.1 [] no_graphs)

pub graphs_found : {E : Type 0} (values : List (List ℕ)) (r : Result (List Graph) E)
    → IfOk r (λ contexts. (graphs : List Graph) × AreContexts values graphs × (contexts ≡ each_once graphs)) → IfOk r (λ contexts. All IsGraph contexts)
graphs_found values (Ok contexts) x = once_graphs values contexts x
graphs_found values (Err e) x = tt

-- the items of a loop so far, and one more

pub take_one : {X : Type 0} (xs : List X) (i : ℕ) (x : X) → i < length xs → x ≡ get_or xs i x → take (i + 1) xs ≡ take i xs ++ x ∷ []
take_one xs i x h is =
    let n : suc i ≡ i + 1 = omega arith in
    ap (λ (m : ℕ). take m xs) (sym n) ∙ take-suc xs i x h ∙ ap (λ y. take i xs ++ y ∷ []) (sym is)

pub values_more : (name : List ℕ) (pairs : List (List ℕ × List ℕ)) (i : ℕ) (pair : List ℕ × List ℕ) → i < length pairs → pair ≡ get_or pairs i pair
    → values_of name (take i pairs) ++ filter_map (value_of name) (pair ∷ []) ≡ values_of name (take (i + 1) pairs)
values_more name pairs i pair h is =
    sym (ap (values_of name) (take_one pairs i pair h is) ∙ filter_map-append (value_of name) (take i pairs) (pair ∷ []))

pub contexts_more : (values : List (List ℕ)) (gs : List Graph) (g : Graph) (i : ℕ) (value : List ℕ) → i < length values → value ≡ get_or values i value
    → AreContexts (take i values) gs → IsContext value g → AreContexts (take (i + 1) values) (gs ++ g ∷ [])
contexts_more values gs g i value h is x c =
    subst (λ (v : List (List ℕ)). AreContexts v (gs ++ g ∷ [])) (sym (take_one values i value h is)) (more_contexts value g x c)

pub no_context : (values : List (List ℕ)) (gs : List Graph) (i : ℕ) (value : List ℕ) → i < length values → value ≡ get_or values i value
    → ((g : Graph) → IsContext value g → ⊥) → AreContexts values gs → ⊥
no_context values gs i value h is not x =
    let at = context_at i value x h in not at.0 (subst (λ (v : List ℕ). IsContext v at.0) (sym is) at.1)

-- laws

both : (a b : Selection) → a.s ≡ b.s → a.p ≡ b.p → a.o ≡ b.o → a.contexts ≡ b.contexts → a ≡ b
both a b s p o c = λ i. record { s = s i; p = p i; o = o i; contexts = c i }

pub one_contexts : (pairs : List (List ℕ × List ℕ)) (a b : List Graph) → IsContexts pairs a → IsContexts pairs b → a ≡ b
one_contexts pairs a b x y = x.2 ∙ ap each_once (one_list x.1 y.1) ∙ sym y.2

pub one_selection : (pairs : List (List ℕ × List ℕ)) (a b : Selection) → IsSelection pairs a → IsSelection pairs b → a ≡ b
one_selection pairs a b x y =
    both a b (one_part kinds.Resource _ a.s b.s x.s y.s) (one_part kinds.Iri _ a.p b.p x.p y.p) (one_part kinds.Any _ a.o b.o x.o y.o)
    (one_contexts pairs a.contexts b.contexts x.contexts y.contexts)

pub one_first_bad : (pairs : List (List ℕ × List ℕ)) (a b : Parameter) → IsFirstBad pairs a → IsFirstBad pairs b → a ≡ b
one_first_bad pairs Subject Subject x y = refl
one_first_bad pairs Subject Predicate x y = absurd (y.0 x)
one_first_bad pairs Subject Object x y = absurd (y.0 x)
one_first_bad pairs Subject Context x y = absurd (y.0 x)
one_first_bad pairs Predicate Subject x y = absurd (x.0 y)
one_first_bad pairs Predicate Predicate x y = refl
one_first_bad pairs Predicate Object x y = absurd (y.1 x.1)
one_first_bad pairs Predicate Context x y = absurd (y.1 x.1)
one_first_bad pairs Object Subject x y = absurd (x.0 y)
one_first_bad pairs Object Predicate x y = absurd (x.1 y.1)
one_first_bad pairs Object Object x y = refl
one_first_bad pairs Object Context x y = absurd (y.2 x.2)
one_first_bad pairs Context Subject x y = absurd (x.0 y)
one_first_bad pairs Context Predicate x y = absurd (x.1 y.1)
one_first_bad pairs Context Object x y = absurd (x.2 y.2)
one_first_bad pairs Context Context x y = refl

good_contexts : (pairs : List (List ℕ × List ℕ)) (contexts : List Graph) → IsContexts pairs contexts → IsBad pairs Context → ⊥
good_contexts pairs contexts x bad = bad x.0 x.1

good_selection : (pairs : List (List ℕ × List ℕ)) (it : Selection) (parameter : Parameter) → IsSelection pairs it → IsFirstBad pairs parameter → ⊥
good_selection pairs it Subject x bad = bad it.s x.s
good_selection pairs it Predicate x bad = bad.1 it.p x.p
good_selection pairs it Object x bad = bad.2 it.o x.o
good_selection pairs it Context x bad = good_contexts pairs it.contexts x.contexts bad.3

pub bad_or_selection : BadOrSelection
bad_or_selection pairs = (good_selection pairs, good_contexts pairs)
