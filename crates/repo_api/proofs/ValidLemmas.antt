-- What a call adds is of valid terms.
use Rattle.std.proofs.Common.{◌≡◌, ℕ, List, [], ◌∷◌, ◌++◌, Bool, true, false, Option, None, Result, Ok, if◌then◌else◌, map, fold, sym, ap, subst, All}
use Rattle.std.specs.List.{flat_map, list_any}
use Rattle.std.specs.Ordering.{eq_by_cmp}
use Rattle.std.proofs.lemmas.List.Elements.{All-nil, All-cons, All-head, All-tail, All-append, All-push}
use Rattle.rdf_term.specs.declared.graph.Graph.{Graph}
use Rattle.rdf_term.specs.declared.graph.Graph.TheVariants.{Absent, Named}
use Rattle.rdf_term.specs.declared.pattern.Pattern.{Pattern}
use Rattle.rdf_term.specs.Order.{graph_cmp}
use Rattle.rdf_term.specs.Statement.{Statement}
use Rattle.rdf_term.specs.Validity.{IsValidQuad, IsValidGraph}
use Rattle.nquads_line.specs.Laws.{TermsAreValid}
use Rattle.nquads.specs.Laws.{DocumentsAreValid}
use Rattle.change_set.specs.declared.change.Change.{Change}
use Rattle.change_set.specs.declared.change.Change.TheVariants.{Add, Remove, RemoveMatching}
use Rattle.journal.specs.declared.txn.Txn.{Txn}
use Rattle.journal.specs.declared.op.Op.{Op}
use Rattle.journal.specs.declared.op.Op.TheVariants as ops
use Rattle.media.specs.declared.form.Form.{Form}
use Rattle.http_frame.specs.Messages.{SeenRequest}
use Rattle.api_parts.specs.Selections.{IsContext, AreContexts, none, one, IsContexts, with_graph}
use Rattle.api_parts.specs.Writes.{in_graph, placed, additions, removals, everything_in}
use Rattle.api_parts.specs.Selections.{patterns_of}
use Rattle.api_calls.specs.declared.fault.ApiFault.{ApiFault}
use Rattle.repo_api.specs.declared.task.Task.{Task}
use Rattle.repo_api.specs.declared.task.Task.TheVariants as tasks
use Rattle.repo_api.specs.declared.task.Writing.{Writing}
use Rattle.repo_api.specs.declared.task.Writing.TheVariants.{Adds, Replaces, Removes}
use Rattle.repo_api.specs.Calls.{GetsAmong, changes_of, Asks}
use Rattle.repo_api.specs.Laws.{IsValidAddition, WritesAreValid}
use Rattle.repo_api.specs.Parameters.{target_parameters}
use Rattle.repo_api.proofs.OriginLemmas.{ok_through, origin}

-- contexts are valid graphs
graph_is_valid : TermsAreValid → (value : List ℕ) (g : Graph) → IsContext value g → IsValidGraph g
graph_is_valid terms value Absent x = tt
graph_is_valid terms value (Named t) x = terms value t x.text x.short

with_graph_or : (test : Bool) (gs : List Graph) (g : Graph) → All IsValidGraph gs → IsValidGraph g → All IsValidGraph (if test then gs else gs ++ g ∷ [])
with_graph_or true gs g all is = all
with_graph_or false gs g all is = All-push IsValidGraph gs g all is

graphs_onto : TermsAreValid → {values : List (List ℕ)} {gs : List Graph} → AreContexts values gs → (before : List Graph) → All IsValidGraph before → All IsValidGraph (fold with_graph before gs)
graphs_onto terms none before all = all
graphs_onto terms (one {value} {graph = g} x xs) before all =
    graphs_onto terms xs (with_graph before g) (with_graph_or (list_any (eq_by_cmp graph_cmp g) before) before g all (graph_is_valid terms value g x))

contexts_are_valid : TermsAreValid → (pairs : List (List ℕ × List ℕ)) (contexts : List Graph) → IsContexts pairs contexts → All IsValidGraph contexts
contexts_are_valid terms pairs contexts x = subst (All IsValidGraph) (sym x.2) (graphs_onto terms x.1 [] (All-nil IsValidGraph))

-- a valid quad in valid graphs
in_graphs : (q : Statement) → IsValidQuad q → (gs : List Graph) → All IsValidGraph gs → All IsValidQuad (map (in_graph q) gs)
in_graphs q valid [] all = All-nil IsValidQuad
in_graphs q valid (g ∷ gs) all =
    All-cons IsValidQuad (in_graph q g) (map (in_graph q) gs) (valid.0, valid.1, valid.2, All-head IsValidGraph g gs all) (in_graphs q valid gs (All-tail IsValidGraph g gs all))

placed_is_valid : (gs : List Graph) (q : Statement) → All IsValidGraph gs → IsValidQuad q → All IsValidQuad (placed gs q)
placed_is_valid [] q all valid = All-cons IsValidQuad q [] valid (All-nil IsValidQuad)
placed_is_valid (g ∷ gs) q all valid = in_graphs q valid (g ∷ gs) all

all_placed : (gs : List Graph) → All IsValidGraph gs → (qs : List Statement) → All IsValidQuad qs → All IsValidQuad (flat_map (placed gs) qs)
all_placed gs all [] valid = All-nil IsValidQuad
all_placed gs all (q ∷ qs) valid =
    All-append IsValidQuad (placed gs q) (flat_map (placed gs) qs) (placed_is_valid gs q all (All-head IsValidQuad q qs valid)) (all_placed gs all qs (All-tail IsValidQuad q qs valid))

added : (qs : List Statement) → All IsValidQuad qs → All IsValidAddition (map Add qs)
added [] valid = All-nil IsValidAddition
added (q ∷ qs) valid = All-cons IsValidAddition (Add q) (map Add qs) (All-head IsValidQuad q qs valid) (added qs (All-tail IsValidQuad q qs valid))

removed : (qs : List Statement) → All IsValidAddition (map Remove qs)
removed [] = All-nil IsValidAddition
removed (q ∷ qs) = All-cons IsValidAddition (Remove q) (map Remove qs) tt (removed qs)

removed_matching : (ps : List Pattern) → All IsValidAddition (map RemoveMatching ps)
removed_matching [] = All-nil IsValidAddition
removed_matching (p ∷ ps) = All-cons IsValidAddition (RemoveMatching p) (map RemoveMatching ps) tt (removed_matching ps)

changes_are_valid : (writing : Writing) (gs : List Graph) (qs : List Statement) → All IsValidGraph gs → All IsValidQuad qs → All IsValidAddition (changes_of writing gs qs)
changes_are_valid Adds gs qs all valid = added (flat_map (placed gs) qs) (all_placed gs all qs valid)
changes_are_valid Replaces gs qs all valid =
    All-append IsValidAddition (removals (everything_in gs)) (additions gs qs) (removed_matching (patterns_of (everything_in gs))) (added (flat_map (placed gs) qs) (all_placed gs all qs valid))
changes_are_valid Removes gs qs all valid = removed (flat_map (placed gs) qs)

-- the op of a task

pub same_op : (op other : Op) (form form' : Form) → ◌≡◌ {A = Result (Op × Form) ApiFault} (Ok (op, form)) (Ok (other, form')) → op ≡ other
same_op op other form form' e = ap (λ (pair : Op × Form). pair.0) (let same : ◌≡◌ {A = Op × Form} (op, form) (other, form') = cc in same)

same_changes : (txn txn' : Option Txn) (changes other : List Change) → ops.Write txn changes ≡ ops.Write txn' other → changes ≡ other
same_changes txn txn' changes other e = cc

pub no_read : {X : Type 0} (op : Op) (r : SeenRequest) (offers : List Form) (other : Op) (form : Form) → GetsAmong r offers other (Ok (op, form)) → (op ≡ other → X) → X
no_read op r offers other form x never =
    let chosen = ok_through _ _ (op, form) x in never (same_op op other form chosen.0 chosen.2)

written : TermsAreValid → DocumentsAreValid → (r : SeenRequest) (task : Task) (txn : Option Txn) (changes : List Change) (form : Form)
    → Asks r task (Ok (ops.Write txn changes, form)) → All IsValidAddition changes
written terms documents r (tasks.Query txn') txn changes form x =
    let may = ok_through _ _ (ops.Write txn changes, form) x in
    let query = ok_through _ _ (ops.Write txn changes, form) may.2 in
    no_read (ops.Write txn changes) r _ _ form query.2 (λ e. cc)
written terms documents r (tasks.List txn') txn changes form x =
    let it = ok_through _ _ (ops.Write txn changes, form) x in no_read (ops.Write txn changes) r _ _ form it.2 (λ e. cc)
written terms documents r (tasks.Size txn') txn changes form x =
    let it = ok_through _ _ (ops.Write txn changes, form) x in let e = same_op (ops.Write txn changes) _ form _ it.2 in cc
written terms documents r tasks.Contexts txn changes form x = no_read (ops.Write txn changes) r _ _ form x (λ e. cc)
written terms documents r (tasks.Write txn' writing) txn changes form x =
    let kind = ok_through _ _ (ops.Write txn changes, form) x in
    let contexts = ok_through _ _ (ops.Write txn changes, form) kind.2 in
    let quads = ok_through _ _ (ops.Write txn changes, form) contexts.2 in
    let e = same_changes txn txn' changes (changes_of writing contexts.0 quads.0) (same_op (ops.Write txn changes) _ form _ quads.2) in
    subst (All IsValidAddition) (sym e)
    (changes_are_valid writing contexts.0 quads.0 (contexts_are_valid terms (target_parameters r) contexts.0 contexts.1) (documents kind.0 r.body quads.0 quads.1))
written terms documents r tasks.Remove txn changes form x =
    let it = ok_through _ _ (ops.Write txn changes, form) x in
    let e = same_changes txn None changes (removals it.0) (same_op (ops.Write txn changes) _ form _ it.2) in
    subst (All IsValidAddition) (sym e) (removed_matching (patterns_of it.0))
written terms documents r tasks.ListNames txn changes form x = no_read (ops.Write txn changes) r _ _ form x (λ e. cc)
written terms documents r tasks.ClearNames txn changes form x = let e = same_op (ops.Write txn changes) _ form _ x in cc
written terms documents r (tasks.GetName prefix) txn changes form x =
    let it = ok_through _ _ (ops.Write txn changes, form) x in let e = same_op (ops.Write txn changes) _ form _ it.2 in cc
written terms documents r (tasks.PutName prefix) txn changes form x =
    let it = ok_through _ _ (ops.Write txn changes, form) x in
    let name = ok_through _ _ (ops.Write txn changes, form) it.2 in
    let e = same_op (ops.Write txn changes) _ form _ name.2 in cc
written terms documents r (tasks.RemoveName prefix) txn changes form x =
    let it = ok_through _ _ (ops.Write txn changes, form) x in let e = same_op (ops.Write txn changes) _ form _ it.2 in cc
written terms documents r tasks.Begin txn changes form x =
    let it = ok_through _ _ (ops.Write txn changes, form) x in let e = same_op (ops.Write txn changes) _ form _ it.2 in cc
written terms documents r (tasks.Commit t) txn changes form x = let e = same_op (ops.Write txn changes) _ form _ x in cc
written terms documents r (tasks.Rollback t) txn changes form x = let e = same_op (ops.Write txn changes) _ form _ x in cc
written terms documents r (tasks.Ping t) txn changes form x = let e = same_op (ops.Write txn changes) _ form _ x in cc

pub writes_are_valid : TermsAreValid → DocumentsAreValid → WritesAreValid
writes_are_valid terms documents r repos repo txn changes form x =
    let from = origin r repos repo (ops.Write txn changes) form x in
    written terms documents r from.1.0 txn changes form from.1.1
