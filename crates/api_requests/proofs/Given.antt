-- A call that a request gives is spellable.
use Rattle.std.proofs.Common.{◌≡◌, ◌⊎◌, ℕ, List, [], ◌∷◌, ◌++◌, Bool, true, false, ◌&&◌, not, cond, if◌then◌else◌, Option, Some, None, Result, Ok, Err, map, fold, find, refl, sym, ap, ◌∙◌, subst, arith, codes, encode_utf8_all, All, inl, inr}
use Rattle.std.specs.List.{AllByRecursion, flat_map, list_any, slice_split}
use Rattle.std.specs.Option.{option_to_list}
use Rattle.std.specs.Ordering.{eq_by_cmp}
use Rattle.std.specs.Str.{IsUtf8, is_utf8, all_scalars, chars, bytes_eq}
use Rattle.std.proofs.lemmas.Bool.{cond_both}
use Rattle.std.proofs.lemmas.Cmp.{eq_by_cmp_equiv}
use Rattle.std.proofs.lemmas.List.Elements.{All-nil, All-cons, All-head, All-tail, All-append, All-push}
use Rattle.std.proofs.lemmas.Map.Views.{list_any-from_Contains}
use Rattle.std.proofs.lemmas.Option.{same_Some}
use Rattle.std.proofs.lemmas.Str.{IsUtf8-from_is_utf8, scalars-chars}
use Rattle.percent_encoding.specs.Percent.{percent_decode}
use Rattle.rdf_term.specs.Order.{graph_cmp}
use Rattle.rdf_term.specs.OrderLaws.{graph_total}
use Rattle.rdf_term.proofs.DistinctLemmas.{EachOnce-push}
use Rattle.rdf_term.specs.Statement.{Statement, IsStatement}
use Rattle.rdf_term.specs.Terms.{IsResource, IsIri}
use Rattle.rdf_term.specs.Validity.{IsValidTerm, is_part, is_iri_text, is_short}
use Rattle.rdf_term.specs.declared.term.Term.{Term}
use Rattle.rdf_term.specs.declared.term.Term.TheVariants.{Iri}
use Rattle.rdf_term.specs.declared.graph.Graph.{Graph}
use Rattle.rdf_term.specs.declared.graph.Graph.TheVariants.{Absent, Named}
use Rattle.nquads_line.specs.Grammar.{IsLine}
use Rattle.nquads_line.specs.Laws.{TermsAreValid}
use Rattle.nquads_line.specs.declared.kind.Kind.{Kind}
use Rattle.nquads.specs.Documents.{IsDocument, AreLines}
use Rattle.nquads.specs.Laws.{DocumentsAreValid}
use Rattle.nquads.specs.Lines.{lines_of}
use Rattle.nquads.specs.Written.{IsWritable}
use Rattle.query_model.specs.declared.query.Query.{Query}
use Rattle.query_model.specs.WellFormed.{IsWellFormed}
use Rattle.query_print.specs.Laws.{ParsedAreWellFormed}
use Rattle.journal.specs.declared.txn.Txn.{Txn}
use Rattle.journal.specs.declared.ask.Ask.TheVariants as asks
use Rattle.journal.specs.declared.op.Op.{Op}
use Rattle.journal.specs.declared.op.Op.TheVariants as ops
use Rattle.journal.specs.declared.op.NamesOp.TheVariants as names
use Rattle.media.specs.declared.form.Form.{Form}
use Rattle.media.specs.declared.form.Form.TheVariants.{PlainText}
use Rattle.media.specs.Choice.{quality, chosen}
use Rattle.media.specs.Greatest.{is_greatest, first_greatest}
use Rattle.http_frame.specs.Messages.{SeenRequest}
use Rattle.api_parts.specs.declared.selection.Selection.{Selection}
use Rattle.api_parts.specs.declared.selection.Parameter.TheVariants.{Subject, Predicate, Object}
use Rattle.api_parts.specs.Parameters.{path_of, values_of}
use Rattle.api_parts.specs.Selections.{name_of, IsPart, IsContext, AreContexts, none, one, IsContexts, IsSelection, with_graph}
use Rattle.api_parts.specs.Writes.{in_graph, placed, removals}
use Rattle.api_paths.specs.Prefixes.{is_prefix}
use Rattle.api_paths.specs.Targets.{is_slash, origin_form, text_of, texts_with, segments}
use Rattle.api_calls.specs.declared.call.Call.{Call}
use Rattle.api_calls.specs.declared.call.Call.TheVariants.{Protocol, Repositories, On}
use Rattle.api_calls.specs.declared.fault.ApiFault.{ApiFault}
use Rattle.api_calls.specs.declared.fault.ApiFault.TheVariants as faults
use Rattle.repo_api.specs.declared.method.Method.{Method}
use Rattle.repo_api.specs.declared.method.Method.TheVariants.{Get, Post, Put, Delete}
use Rattle.repo_api.specs.declared.resource.Part.{Part}
use Rattle.repo_api.specs.declared.resource.Part.TheVariants as parts
use Rattle.repo_api.specs.declared.resource.Resource.{Resource}
use Rattle.repo_api.specs.declared.resource.Resource.TheVariants as resources
use Rattle.repo_api.specs.declared.task.Task.{Task}
use Rattle.repo_api.specs.declared.task.Task.TheVariants as tasks
use Rattle.repo_api.specs.declared.task.Writing.{Writing}
use Rattle.repo_api.specs.declared.task.Writing.TheVariants.{Adds, Replaces, Removes}
use Rattle.repo_api.specs.Accepts.{accept_of, accepted, form_among, quad_forms, table_forms}
use Rattle.repo_api.specs.Calls.{Asks, AsksPart, Acts, AsksTransaction, GetsAmong, QueryIn, changes_of, CallsFor}
use Rattle.repo_api.specs.Checks.{Then, passed, refused, tested}
use Rattle.repo_api.specs.Content.{is_empty, type_of, is_query_text, is_namespace, namespace_of}
use Rattle.repo_api.specs.Parameters.{target_parameters, all_parameters}
use Rattle.repo_api.specs.Queries.{query_bodies, is_query_body, only, forms_of}
use Rattle.repo_api.specs.Resources.{Names, segments_below, segments_of, method_of}
use Rattle.repo_api.specs.Tasks.{bad, task_at, task_of_action, task_of_actions}
use Rattle.repo_api.proofs.ParameterLemmas.{are_texts, values_are_texts}
use Rattle.api_requests.specs.Laws.{GivenIsSpellable}
use Rattle.api_requests.specs.Spellable.{IsAmong, IsText, IsNamed, IsNamedOrNone, IsGiven, IsAnyTerm, IsContextGraph, AreContextGraphs, IsSelectable, IsWriting, IsPrefixText, IsSpellableOp, IsSpellable}
use Rattle.api_requests.proofs.ByteLemmas.{first_of, second_of}
use Rattle.api_requests.proofs.ChangeLemmas.{in_graph_writable}

-- the laws of the crates below
pub record Given : Type 0 where
  pub terms : TermsAreValid
  pub documents : DocumentsAreValid
  pub parsed : ParsedAreWellFormed

ok_is_err : {A : Type 0} (a : A) (f : ApiFault) → ◌≡◌ {A = Result A ApiFault} (Ok a) (Err f) → ⊥
ok_is_err a f e = cc

same_ok : {A : Type 0} (a b : A) → ◌≡◌ {A = Result A ApiFault} (Ok a) (Ok b) → a ≡ b
same_ok a b e = cc

-- where the answer is no refusal, the check passed
through : {A B : Type 0} (check : Result A ApiFault → Type 0) (next : A → Result B ApiFault → Type 0) (b : B)
    → Then check next (Ok b) → (a : A) × check (Ok a) × next a (Ok b)
through check next b (passed a p q) = (a, p, q)
through check next b (refused f p e) = absurd (ok_is_err b f e)

-- forms

find_among : (p : Form → Bool) (xs : List Form) (x : Form) → find p xs ≡ Some x → IsAmong xs x
find_among p [] x e = cc
find_among p (y ∷ ys) x e =
    elim (p y) as (λ t. cond t (Some y) (find p ys) ≡ Some x → (x ≡ y) ⊎ IsAmong ys x)
    [ true ↦ λ h. inl (sym (same_Some y x h)) | false ↦ λ h. inr (find_among p ys x h) ] e

chosen_among : (accept : List ℕ) (offers : List Form) (form : Form) → chosen accept offers ≡ Some form → IsAmong offers form
unfolding chosen first_greatest
chosen_among accept offers form e = find_among (is_greatest (quality accept) offers) offers form e

accepted_is : (o : Option Form) (form : Form) → ◌≡◌ {A = Result Form ApiFault} (Ok form) (accepted o) → o ≡ Some form
accepted_is None form e = absurd (ok_is_err form _ e)
accepted_is (Some f) form e = ap Some (sym (same_ok form f e))

offered : (fields : List (List ℕ × List ℕ)) (offers : List Form) (form : Form) → Ok form ≡ form_among fields offers → IsAmong offers form
offered fields offers form e = chosen_among (accept_of fields) offers form (accepted_is (chosen (accept_of fields) offers) form e)

pair_parts : (op other : Op) (form form' : Form) → ◌≡◌ {A = Result (Op × Form) ApiFault} (Ok (op, form)) (Ok (other, form')) → (op ≡ other) × (form ≡ form')
pair_parts op other form form' e =
    let same : ◌≡◌ {A = Op × Form} (op, form) (other, form') = same_ok (op, form) (other, form') e in (ap (λ (p : Op × Form). p.0) same, ap (λ (p : Op × Form). p.1) same)

spelled_by : (op other : Op) (form form' : Form) → ◌≡◌ {A = Result (Op × Form) ApiFault} (Ok (op, form)) (Ok (other, form')) → IsSpellableOp other form' → IsSpellableOp op form
spelled_by op other form form' e x =
    let p = pair_parts op other form form' e in subst (λ (f : Form). IsSpellableOp op f) (sym p.1) (subst (λ (o : Op). IsSpellableOp o form') (sym p.0) x)

gets_spelled : (r : SeenRequest) (offers : List Form) (other op : Op) (form : Form) → GetsAmong r offers other (Ok (op, form))
    → ((f : Form) → IsAmong offers f → IsSpellableOp other f) → IsSpellableOp op form
gets_spelled r offers other op form x next = let y = through _ _ (op, form) x in spelled_by op other form y.0 y.2 (next y.0 (offered r.head.fields offers y.0 y.1))

-- what parameters select

-- A part by the values of its parameter, under any relation that says which part values give: the kinds of terms that parameters take have
-- no names here.
given_part : (Gives : List (List ℕ) → Option Term → Type 0) (MayStand : Term → Type 0) (values : List (List ℕ)) (part : Option Term) → Gives values part
    → ((t : Term) → Gives [] (Some t) → ⊥) → ((v w : List ℕ) (vs : List (List ℕ)) (t : Term) → Gives (v ∷ w ∷ vs) (Some t) → ⊥)
    → ((v : List ℕ) (t : Term) → Gives (v ∷ []) (Some t) → IsValidTerm t × MayStand t) → IsGiven MayStand part
given_part Gives MayStand values None x nothing several alone = tt
given_part Gives MayStand [] (Some t) x nothing several alone = absurd (nothing t x)
given_part Gives MayStand (v ∷ []) (Some t) x nothing several alone = alone v t x
given_part Gives MayStand (v ∷ w ∷ vs) (Some t) x nothing several alone = absurd (several v w vs t x)

context_is : Given → (value : List ℕ) (g : Graph) → IsContext value g → IsContextGraph g
context_is facts value Absent x = (tt, tt)
context_is facts value (Named t) x = (facts.terms value t x.text x.short, x.fits)

with_one : (before : List Graph) (g : Graph) → AreContextGraphs before → IsContextGraph g → AreContextGraphs (with_graph before g)
with_one before g are is = at (list_any (eq_by_cmp graph_cmp g) before) refl
  where
    at : (b : Bool) → list_any (eq_by_cmp graph_cmp g) before ≡ b → AreContextGraphs (if b then before else before ++ g ∷ [])
    at true e = are
    at false e =
        record {
          each = All-push IsContextGraph before g are.each is;
          once = EachOnce-push before g are.once (λ c. (let z = list_any-from_Contains (eq_by_cmp_equiv graph_total) g before c in let y : true ≡ false = sym z ∙ e in cc));
        }

graphs_onto : Given → {values : List (List ℕ)} {gs : List Graph} → AreContexts values gs → (before : List Graph) → AreContextGraphs before → AreContextGraphs (fold with_graph before gs)
graphs_onto facts none before are = are
graphs_onto facts (one {value} {graph = g} x xs) before are = graphs_onto facts xs (with_graph before g) (with_one before g are (context_is facts value g x))

no_graphs : AreContextGraphs []
no_graphs = record { each = All-nil IsContextGraph; once = (λ i j d less within e. absurd (omega (arith, within))) }

given_contexts : Given → (pairs : List (List ℕ × List ℕ)) (contexts : List Graph) → IsContexts pairs contexts → AreContextGraphs contexts
given_contexts facts pairs contexts x = subst (λ (gs : List Graph). AreContextGraphs gs) (sym x.2) (graphs_onto facts x.1 [] no_graphs)

given_selection : Given → (pairs : List (List ℕ × List ℕ)) (it : Selection) → IsSelection pairs it → IsSelectable it
given_selection facts pairs it x =
    record {
      s = given_part (IsPart _) IsResource (values_of (name_of Subject) pairs) it.s x.s (λ t y. y) (λ v w vs t y. y) (λ v t y. (facts.terms v t y.text y.short, y.fits));
      p = given_part (IsPart _) IsIri (values_of (name_of Predicate) pairs) it.p x.p (λ t y. y) (λ v w vs t y. y) (λ v t y. (facts.terms v t y.text y.short, y.fits));
      o = given_part (IsPart _) IsAnyTerm (values_of (name_of Object) pairs) it.o x.o (λ t y. y) (λ v w vs t y. y) (λ v t y. (facts.terms v t y.text y.short, y.fits));
      contexts = given_contexts facts pairs it.contexts x.contexts;
    }

-- the query of a request

only_text : (texts : List (List ℕ)) (text : List ℕ) → All IsUtf8 texts → only texts ≡ Ok text → IsUtf8 text
only_text [] text all e = absurd (ok_is_err text _ (sym e))
only_text (x ∷ []) text all e = subst IsUtf8 (same_ok x text e) (All-head IsUtf8 x [] all)
only_text (x ∷ y ∷ xs) text all e = absurd (ok_is_err text _ (sym e))

body_text : (r : SeenRequest) → All IsUtf8 (query_bodies r)
body_text r =
    cond_both (is_query_body r) (r.body ∷ []) [] (All IsUtf8)
    (λ e. All-cons IsUtf8 r.body [] (IsUtf8-from_is_utf8 r.body (second_of (is_query_text (type_of r.head.fields) && not (is_empty r.body)) (is_utf8 r.body) e)) (All-nil IsUtf8)) (λ e. All-nil IsUtf8)

given_query : Given → (r : SeenRequest) (q : Query) → QueryIn r (all_parameters r) (Ok q) → IsWellFormed q
given_query facts r q x =
    let language = through _ _ q x in
    let text = through _ _ q language.2 in
    let binding = through _ _ q text.2 in
    let texts = All-append IsUtf8 (values_of (codes "query") (all_parameters r)) (query_bodies r) (values_are_texts (codes "query") (all_parameters r) (are_texts r)) (body_text r) in
    facts.parsed text.0 q (only_text (values_of (codes "query") (all_parameters r) ++ query_bodies r) text.0 texts (sym text.1)) binding.2

-- the statements of a document

line_statement : (kind : Kind) (line : List ℕ) (quad : Option Statement) → IsLine kind line quad → All (λ (q : Statement). IsStatement q.s q.p q.c) (option_to_list quad)
line_statement kind line None x = All-nil (λ (q : Statement). IsStatement q.s q.p q.c)
line_statement kind line (Some q) x = All-cons (λ (q : Statement). IsStatement q.s q.p q.c) q [] x.3.kinds (All-nil (λ (q : Statement). IsStatement q.s q.p q.c))

lines_statements : (kind : Kind) (lines : List (List ℕ)) (quads : List Statement) → AreLines kind lines quads → All (λ (q : Statement). IsStatement q.s q.p q.c) quads
lines_statements kind [] quads x = subst (All (λ (q : Statement). IsStatement q.s q.p q.c)) (sym x) (All-nil (λ (q : Statement). IsStatement q.s q.p q.c))
lines_statements kind (line ∷ lines) quads x =
    subst (All (λ (q : Statement). IsStatement q.s q.p q.c)) (sym x.4)
    (All-append (λ (q : Statement). IsStatement q.s q.p q.c) (option_to_list x.0) x.1 (line_statement kind line x.0 x.2) (lines_statements kind lines x.1 x.5))

given_document : Given → (kind : Kind) (body : List ℕ) (quads : List Statement) → IsDocument kind body quads → All IsWritable quads
given_document facts kind body quads x =
    let statements = lines_statements kind (lines_of body) quads x in let valid = facts.documents kind body quads x in λ k d h. (statements k d h, valid k d h)

in_graphs : (q : Statement) → IsWritable q → (gs : List Graph) → All IsContextGraph gs → All IsWritable (map (in_graph q) gs)
in_graphs q w [] all = All-nil IsWritable
in_graphs q w (g ∷ gs) all =
    All-cons IsWritable (in_graph q g) (map (in_graph q) gs) (in_graph_writable g (All-head IsContextGraph g gs all) q w) (in_graphs q w gs (All-tail IsContextGraph g gs all))

placed_writable : (gs : List Graph) (q : Statement) → All IsContextGraph gs → IsWritable q → All IsWritable (placed gs q)
placed_writable [] q all w = All-cons IsWritable q [] w (All-nil IsWritable)
placed_writable (g ∷ gs) q all w = in_graphs q w (g ∷ gs) all

all_placed : (gs : List Graph) → All IsContextGraph gs → (qs : List Statement) → All IsWritable qs → All IsWritable (flat_map (placed gs) qs)
all_placed gs all [] w = All-nil IsWritable
all_placed gs all (q ∷ qs) w =
    All-append IsWritable (placed gs q) (flat_map (placed gs) qs) (placed_writable gs q all (All-head IsWritable q qs w)) (all_placed gs all qs (All-tail IsWritable q qs w))

-- which writes a task makes
MayWrite : Option Txn → Writing → Type 0
MayWrite None Adds = Unit {0}
MayWrite None Replaces = Unit {0}
MayWrite None Removes = ⊥
MayWrite (Some t) Adds = Unit {0}
MayWrite (Some t) Replaces = ⊥
MayWrite (Some t) Removes = Unit {0}

given_write : (txn : Option Txn) (writing : Writing) (gs : List Graph) (qs : List Statement) → MayWrite txn writing → AreContextGraphs gs → All IsWritable qs
    → IsWriting txn (changes_of writing gs qs)
unfolding MayWrite
given_write None Adds gs qs may are w = inl (record { quads = flat_map (placed gs) qs; writable = all_placed gs are.each qs w; are = refl })
given_write None Replaces gs qs may are w = inr (inl (record { contexts = gs; quads = qs; graphs = are; writable = w; are = refl }))
given_write None Removes gs qs may are w = absurd may
given_write (Some t) Adds gs qs may are w = inl (record { quads = flat_map (placed gs) qs; writable = all_placed gs are.each qs w; are = refl })
given_write (Some t) Replaces gs qs may are w = absurd may
given_write (Some t) Removes gs qs may are w = inr (record { quads = flat_map (placed gs) qs; writable = all_placed gs are.each qs w; are = refl })

-- namespaces

tested_true : (fault : ApiFault) (b : Bool) (a : Unit {0}) → ◌≡◌ {A = Result (Unit {0}) ApiFault} (Ok a) (tested fault b) → b ≡ true
tested_true fault true a e = refl
tested_true fault false a e = absurd (ok_is_err a fault e)

if_true : (b : Bool) (name text : List ℕ) (fault : ApiFault) → ◌≡◌ {A = Result (List ℕ) ApiFault} (Ok name) (if b then Ok text else Err fault) → (b ≡ true) × (name ≡ text)
if_true true name text fault e = (refl, same_ok name text e)
if_true false name text fault e = absurd (ok_is_err name fault e)

both_true : (a b : Bool) → a ≡ true → b ≡ true → (a && b) ≡ true
both_true true b e f = f
both_true false b e f = e

given_name : (body name : List ℕ) → Ok name ≡ namespace_of body → IsValidTerm (Iri name)
given_name body name e =
    let x = if_true (is_namespace body) name (chars body) faults.Namespace e in
    let front = first_of (is_utf8 body && is_iri_text (chars body)) (is_short (chars body)) x.0 in
    let scalars = scalars-chars body (IsUtf8-from_is_utf8 body (first_of (is_utf8 body) (is_iri_text (chars body)) front)) in
    let valid : IsValidTerm (Iri (chars body)) =
    both_true (is_part (chars body)) (is_iri_text (chars body)) (both_true (all_scalars (chars body)) (is_short (chars body)) scalars (second_of (is_utf8 body && is_iri_text (chars body)) (is_short (chars body)) x.0))
    (second_of (is_utf8 body) (is_iri_text (chars body)) front) in
    subst (λ (text : List ℕ). IsValidTerm (Iri text)) (sym x.1) valid

-- what a task asks

TaskIs : Task → Type 0
TaskIs (tasks.Query txn) = IsNamedOrNone txn
TaskIs (tasks.List txn) = IsNamedOrNone txn
TaskIs (tasks.Size txn) = IsNamedOrNone txn
TaskIs tasks.Contexts = Unit {0}
TaskIs (tasks.Write txn writing) = IsNamedOrNone txn × MayWrite txn writing
TaskIs tasks.Remove = Unit {0}
TaskIs tasks.ListNames = Unit {0}
TaskIs tasks.ClearNames = Unit {0}
TaskIs (tasks.GetName prefix) = IsText prefix
TaskIs (tasks.PutName prefix) = IsText prefix
TaskIs (tasks.RemoveName prefix) = IsText prefix
TaskIs tasks.Begin = Unit {0}
TaskIs (tasks.Commit t) = IsNamed t
TaskIs (tasks.Rollback t) = IsNamed t
TaskIs (tasks.Ping t) = IsNamed t

given_prefix : (prefix : List ℕ) (a : Unit {0}) → IsText prefix → Ok a ≡ tested (bad (codes "prefix")) (is_prefix prefix) → IsPrefixText prefix
given_prefix prefix a text e = (text, tested_true (bad (codes "prefix")) (is_prefix prefix) a e)

asked : Given → (r : SeenRequest) (task : Task) → TaskIs task → (op : Op) (form : Form) → Asks r task (Ok (op, form)) → IsSpellableOp op form
unfolding TaskIs
asked facts r (tasks.Query txn) is op form x =
    let may = through _ _ (op, form) x in
    let query = through _ _ (op, form) may.2 in
    gets_spelled r (forms_of query.0) (ops.Read txn (asks.Query query.0)) op form query.2 (λ f among. (is, (given_query facts r query.0 query.1, among)))
asked facts r (tasks.List txn) is op form x =
    let it = through _ _ (op, form) x in
    gets_spelled r quad_forms (ops.Read txn (asks.List it.0.s it.0.p it.0.o it.0.contexts)) op form it.2
    (λ f among. (is, (given_selection facts (target_parameters r) it.0 it.1, among)))
asked facts r (tasks.Size txn) is op form x =
    let contexts = through _ _ (op, form) x in
    spelled_by op (ops.Read txn (asks.Size contexts.0)) form PlainText contexts.2 (is, (given_contexts facts (target_parameters r) contexts.0 contexts.1, refl))
asked facts r tasks.Contexts is op form x = gets_spelled r table_forms (ops.Read None asks.Contexts) op form x (λ f among. (tt, among))
asked facts r (tasks.Write txn writing) is op form x =
    let kind = through _ _ (op, form) x in
    let contexts = through _ _ (op, form) kind.2 in
    let quads = through _ _ (op, form) contexts.2 in
    spelled_by op (ops.Write txn (changes_of writing contexts.0 quads.0)) form PlainText quads.2
    (is.0, given_write txn writing contexts.0 quads.0 is.1 (given_contexts facts (target_parameters r) contexts.0 contexts.1) (given_document facts kind.0 r.body quads.0 quads.1), refl)
asked facts r tasks.Remove is op form x =
    let it = through _ _ (op, form) x in
    spelled_by op (ops.Write None (removals it.0)) form PlainText it.2 (tt, inr (inr (record { it = it.0; selectable = given_selection facts (target_parameters r) it.0 it.1; are = refl })), refl)
asked facts r tasks.ListNames is op form x = gets_spelled r table_forms (ops.Names names.List) op form x (λ f among. among)
asked facts r tasks.ClearNames is op form x = spelled_by op (ops.Names names.Clear) form PlainText x refl
asked facts r (tasks.GetName prefix) is op form x =
    let it = through _ _ (op, form) x in spelled_by op (ops.Names (names.Get prefix)) form PlainText it.2 (given_prefix prefix it.0 is it.1, refl)
asked facts r (tasks.PutName prefix) is op form x =
    let it = through _ _ (op, form) x in
    let name = through _ _ (op, form) it.2 in
    spelled_by op (ops.Names (names.Put prefix name.0)) form PlainText name.2 (given_prefix prefix it.0 is it.1, given_name r.body name.0 name.1, refl)
asked facts r (tasks.RemoveName prefix) is op form x =
    let it = through _ _ (op, form) x in spelled_by op (ops.Names (names.Remove prefix)) form PlainText it.2 (given_prefix prefix it.0 is it.1, refl)
asked facts r tasks.Begin is op form x = let level = through _ _ (op, form) x in spelled_by op (ops.Begin level.0) form PlainText level.2 refl
asked facts r (tasks.Commit t) is op form x = spelled_by op (ops.Commit t) form PlainText x (is, refl)
asked facts r (tasks.Rollback t) is op form x = spelled_by op (ops.Rollback t) form PlainText x (is, refl)
asked facts r (tasks.Ping t) is op form x = spelled_by op (ops.Ping t) form PlainText x (is, refl)

-- the tasks of methods and of actions

OnTask : Result Task ApiFault → Type 0
OnTask (Ok task) = TaskIs task
OnTask (Err fault) = Unit {0}

PartText : Part → Type 0
PartText parts.Queries = Unit {0}
PartText parts.Statements = Unit {0}
PartText parts.Contexts = Unit {0}
PartText parts.Size = Unit {0}
PartText parts.Namespaces = Unit {0}
PartText (parts.Namespace prefix) = IsText prefix
PartText parts.Transactions = Unit {0}

part_task : (part : Part) (method : Option Method) → PartText part → OnTask (task_at part method)
unfolding OnTask PartText TaskIs MayWrite
part_task parts.Queries None text = tt
part_task parts.Queries (Some Get) text = tt
part_task parts.Queries (Some Post) text = tt
part_task parts.Queries (Some Put) text = tt
part_task parts.Queries (Some Delete) text = tt
part_task parts.Statements None text = tt
part_task parts.Statements (Some Get) text = tt
part_task parts.Statements (Some Post) text = (tt, tt)
part_task parts.Statements (Some Put) text = (tt, tt)
part_task parts.Statements (Some Delete) text = tt
part_task parts.Contexts None text = tt
part_task parts.Contexts (Some Get) text = tt
part_task parts.Contexts (Some Post) text = tt
part_task parts.Contexts (Some Put) text = tt
part_task parts.Contexts (Some Delete) text = tt
part_task parts.Size None text = tt
part_task parts.Size (Some Get) text = tt
part_task parts.Size (Some Post) text = tt
part_task parts.Size (Some Put) text = tt
part_task parts.Size (Some Delete) text = tt
part_task parts.Namespaces None text = tt
part_task parts.Namespaces (Some Get) text = tt
part_task parts.Namespaces (Some Post) text = tt
part_task parts.Namespaces (Some Put) text = tt
part_task parts.Namespaces (Some Delete) text = tt
part_task (parts.Namespace prefix) None text = tt
part_task (parts.Namespace prefix) (Some Get) text = text
part_task (parts.Namespace prefix) (Some Post) text = tt
part_task (parts.Namespace prefix) (Some Put) text = text
part_task (parts.Namespace prefix) (Some Delete) text = text
part_task parts.Transactions None text = tt
part_task parts.Transactions (Some Get) text = tt
part_task parts.Transactions (Some Post) text = tt
part_task parts.Transactions (Some Put) text = tt
part_task parts.Transactions (Some Delete) text = tt

either : (b : Bool) (x y : Result Task ApiFault) → OnTask x → OnTask y → OnTask (if b then x else y)
either true x y p q = p
either false x y p q = q

on_ok : (task : Task) → TaskIs task → OnTask (Ok task)
unfolding OnTask
on_ok task is = is

on_err : (fault : ApiFault) → OnTask (Err fault)
unfolding OnTask
on_err fault = tt

writes_in : (t : Txn) → IsNamed t → TaskIs (tasks.Write (Some t) Adds) × TaskIs (tasks.Write (Some t) Removes)
unfolding TaskIs MayWrite
writes_in t named = ((named, tt), (named, tt))

others_in : (t : Txn) → IsNamed t → TaskIs (tasks.List (Some t)) × TaskIs (tasks.Size (Some t)) × TaskIs (tasks.Query (Some t)) × TaskIs (tasks.Commit t) × TaskIs (tasks.Ping t) × TaskIs (tasks.Rollback t)
unfolding TaskIs
others_in t named = (named, named, named, named, named, named)

action_task : (t : Txn) → IsNamed t → (word : List ℕ) → OnTask (task_of_action t word)
action_task t named word =
    let w = writes_in t named in
    let o = others_in t named in
    either (bytes_eq word (codes "ADD")) (Ok (tasks.Write (Some t) Adds)) _ (on_ok (tasks.Write (Some t) Adds) w.0)
    (either (bytes_eq word (codes "DELETE")) (Ok (tasks.Write (Some t) Removes)) _ (on_ok (tasks.Write (Some t) Removes) w.1)
    (either (bytes_eq word (codes "GET")) (Ok (tasks.List (Some t))) _ (on_ok (tasks.List (Some t)) o.0)
    (either (bytes_eq word (codes "SIZE")) (Ok (tasks.Size (Some t))) _ (on_ok (tasks.Size (Some t)) o.1)
    (either (bytes_eq word (codes "QUERY")) (Ok (tasks.Query (Some t))) _ (on_ok (tasks.Query (Some t)) o.2)
    (either (bytes_eq word (codes "COMMIT")) (Ok (tasks.Commit t)) _ (on_ok (tasks.Commit t) o.3)
    (either (bytes_eq word (codes "PING")) (Ok (tasks.Ping t)) _ (on_ok (tasks.Ping t) o.4)
    (either (bytes_eq word (codes "ROLLBACK")) (Ok (tasks.Rollback t)) (Err (bad (codes "action"))) (on_ok (tasks.Rollback t) o.5) (on_err (bad (codes "action"))))))))))

actions_task : (t : Txn) → IsNamed t → (words : List (List ℕ)) → OnTask (task_of_actions t words)
unfolding OnTask
actions_task t named [] = tt
actions_task t named (word ∷ []) = action_task t named word
actions_task t named (word ∷ other ∷ words) = tt

task_is : (task : Task) (answer : Result Task ApiFault) → ◌≡◌ {A = Result Task ApiFault} (Ok task) answer → OnTask answer → TaskIs task
unfolding OnTask
task_is task answer e on = subst OnTask (sym e) on

from_part : Given → (r : SeenRequest) (part : Part) → PartText part → (op : Op) (form : Form) → AsksPart r part (Ok (op, form)) → IsSpellableOp op form
from_part facts r part text op form x =
    let task = through _ _ (op, form) x in
    let uncoded = through _ _ (op, form) task.2 in
    asked facts r task.0 (task_is task.0 _ task.1 (part_task part (method_of r.head.method) text)) op form uncoded.2

from_action : Given → (r : SeenRequest) (t : Txn) → IsNamed t → (op : Op) (form : Form) → Acts r t (Ok (op, form)) → IsSpellableOp op form
from_action facts r t named op form x =
    let uncoded = through _ _ (op, form) x in
    let task = through _ _ (op, form) uncoded.2 in
    asked facts r task.0 (task_is task.0 _ task.1 (actions_task t named (values_of (codes "action") (target_parameters r)))) op form task.2

rolls_back : (t : Txn) → IsNamed t → TaskIs (tasks.Rollback t)
unfolding TaskIs
rolls_back t named = named

from_transaction : Given → (r : SeenRequest) (t : Txn) → IsNamed t → (method : Option Method) (op : Op) (form : Form) → AsksTransaction r t method (Ok (op, form)) → IsSpellableOp op form
from_transaction facts r t named (Some Put) op form x = from_action facts r t named op form x
from_transaction facts r t named (Some Post) op form x = from_action facts r t named op form x
from_transaction facts r t named (Some Delete) op form x =
    let uncoded = through _ _ (op, form) x in asked facts r (tasks.Rollback t) (rolls_back t named) op form uncoded.2
from_transaction facts r t named (Some Get) op form x = absurd (ok_is_err (op, form) _ x)
from_transaction facts r t named None op form x = absurd (ok_is_err (op, form) _ x)

-- the segments of a path are texts

TextOrNone : Option (List ℕ) → Type 0
TextOrNone None = Unit {0}
TextOrNone (Some text) = IsText text

text_or_none : (bs : List ℕ) → TextOrNone (text_of bs)
unfolding TextOrNone
text_or_none bs = cond_both (is_utf8 bs) (Some (chars bs)) None TextOrNone (λ e. scalars-chars bs (IsUtf8-from_is_utf8 bs e)) (λ e. tt)

abbrev piece_text : List ℕ → Option (List ℕ)
piece_text piece = text_of (percent_decode piece)

pieces_are : (pieces : List (List ℕ)) → AllByRecursion TextOrNone (map piece_text pieces)
pieces_are [] = tt
pieces_are (piece ∷ pieces) = (text_or_none (percent_decode piece), pieces_are pieces)

no_more : (found : List (Option (List ℕ))) (texts : List (List ℕ)) → fold texts_with None found ≡ Some texts → ⊥
no_more [] texts e = cc
no_more (text ∷ found) texts e = no_more found texts e

collected : (before : List (List ℕ)) (found : List (Option (List ℕ))) (texts : List (List ℕ)) → All IsText before → AllByRecursion TextOrNone found
    → fold texts_with (Some before) found ≡ Some texts → All IsText texts
unfolding TextOrNone
collected before [] texts all is e = subst (All IsText) (same_Some before texts e) all
collected before (Some text ∷ found) texts all is e = collected (before ++ text ∷ []) found texts (All-push IsText before text all is.0) is.1 e
collected before (None ∷ found) texts all is e = absurd (no_more found texts e)

names_texts : (target : List ℕ) (resource : Resource) → Names target resource → All IsText (segments_of resource)
unfolding segments
names_texts target resource e =
    let pieces = slice_split is_slash (path_of (origin_form target)) in
    collected [] (map piece_text pieces) (segments_of resource) (All-nil IsText) (pieces_are pieces) e

behind : (a b c : List ℕ) (rest : List (List ℕ)) → All IsText (a ∷ b ∷ c ∷ rest) → All IsText rest
behind a b c rest all = All-tail IsText c rest (All-tail IsText b (c ∷ rest) (All-tail IsText a (b ∷ c ∷ rest) all))

part_text : (id : List ℕ) (part : Part) → All IsText (segments_of (resources.Of id part)) → PartText part
unfolding PartText
part_text id parts.Queries all = tt
part_text id parts.Statements all = tt
part_text id parts.Contexts all = tt
part_text id parts.Size all = tt
part_text id parts.Namespaces all = tt
part_text id (parts.Namespace prefix) all =
    let rest = behind [] (codes "rdf4j-server") (codes "repositories") (id ∷ codes "namespaces" ∷ prefix ∷ []) all in
    All-head IsText prefix [] (All-tail IsText (codes "namespaces") (prefix ∷ []) (All-tail IsText id (codes "namespaces" ∷ prefix ∷ []) rest))
part_text id parts.Transactions all = tt

-- every call

spelled_on : (call : Call) (repo : List ℕ) (op : Op) (form : Form) → ◌≡◌ {A = Result Call ApiFault} (Ok call) (Ok (On repo op form)) → IsText repo → IsSpellableOp op form → IsSpellable call
spelled_on call repo op form e text is = subst (λ (c : Call). IsSpellable c) (sym (same_ok call (On repo op form) e)) (text, is)

by_resource : Given → (r : SeenRequest) (repos : List (List ℕ)) (resource : Resource) (call : Call) → All IsText (segments_of resource) → CallsFor r repos resource (Ok call) → IsSpellable call
by_resource facts r repos resources.Protocol call texts x =
    let got = through _ _ call x in
    let uncoded = through _ _ call got.2 in
    subst (λ (c : Call). IsSpellable c) (sym (same_ok call Protocol uncoded.2)) tt
by_resource facts r repos resources.Repositories call texts x =
    let got = through _ _ call x in
    let uncoded = through _ _ call got.2 in
    let form = through _ _ call uncoded.2 in
    subst (λ (c : Call). IsSpellable c) (sym (same_ok call (Repositories form.0) form.2)) (offered r.head.fields table_forms form.0 form.1)
by_resource facts r repos (resources.Of id part) call texts x =
    let there = through _ _ call x in
    let asked' = through _ _ call there.2 in
    spelled_on call id asked'.0.0 asked'.0.1 asked'.2 (All-head IsText id (segments_below part) (behind [] (codes "rdf4j-server") (codes "repositories") (id ∷ segments_below part) texts))
    (from_part facts r part (part_text id part texts) asked'.0.0 asked'.0.1 asked'.1)
by_resource facts r repos (resources.Transaction id name) call texts x =
    let there = through _ _ call x in
    let txn = through _ _ call there.2 in
    let asked' = through _ _ call txn.2 in
    spelled_on call id asked'.0.0 asked'.0.1 asked'.2 (All-head IsText id (codes "transactions" ∷ name ∷ []) (behind [] (codes "rdf4j-server") (codes "repositories") (id ∷ codes "transactions" ∷ name ∷ []) texts))
    (from_transaction facts r txn.0 txn.1.1 (method_of r.head.method) asked'.0.0 asked'.0.1 asked'.1)

pub given_is_spellable : Given → GivenIsSpellable
given_is_spellable facts r repos call x =
    let resource = through _ _ call x in by_resource facts r repos resource.0 call (names_texts (encode_utf8_all r.head.target) resource.0 resource.1) resource.2
