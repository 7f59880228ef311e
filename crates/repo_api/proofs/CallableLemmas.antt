-- What every call has: its op is no Step, and it makes at most 256 entries.
use Rattle.std.proofs.Common.{◌≡◌, ◌≤◌, ℕ, zero, suc, ◌+◌, ◌<◌, List, [], ◌∷◌, ◌++◌, Bool, true, false, ◌&&◌, not, if◌then◌else◌, Option, Some, None, Result, Ok, Err, length, refl, sym, ap, ◌∙◌, subst, All, arith, codes}
use Rattle.std.specs.Str.{IsUtf8, is_utf8}
use Rattle.std.proofs.lemmas.List.Elements.{All-nil, All-cons, All-head, All-append}
use Rattle.std.proofs.lemmas.Str.{IsUtf8-from_is_utf8}
use Rattle.rdf_term.specs.declared.graph.Graph.{Graph}
use Rattle.rdf_term.specs.declared.term.Term.{Term}
use Rattle.query_model.specs.declared.query.Query.{Query}
use Rattle.query_model.specs.FoundValid.{FewLookups}
use Rattle.query_model.specs.Solutions.{lookups_of}
use Rattle.query_print.specs.Laws.{ParsedAreWellFormed}
use Rattle.journal.specs.declared.ask.Ask.TheVariants as asks
use Rattle.journal.specs.declared.level.Level.TheVariants.{ReadCommitted}
use Rattle.journal.specs.declared.txn.Txn.{Txn}
use Rattle.journal.specs.declared.op.Op.{Op}
use Rattle.journal.specs.declared.op.Op.TheVariants as ops
use Rattle.journal.specs.declared.op.NamesOp.TheVariants as names
use Rattle.journal.specs.Levels.{is_level}
use Rattle.media.specs.declared.form.Form.{Form}
use Rattle.http_frame.specs.Messages.{SeenRequest}
use Rattle.api_parts.specs.Parameters.{values_of}
use Rattle.api_calls.specs.Calls.{ops_of, steps_from}
use Rattle.api_calls.specs.declared.fault.ApiFault.{ApiFault}
use Rattle.repo_api.specs.declared.task.Task.{Task}
use Rattle.repo_api.specs.declared.task.Task.TheVariants as tasks
use Rattle.repo_api.specs.Calls.{Asks, GetsAmong, QueryIn}
use Rattle.repo_api.specs.Content.{is_empty, is_query_text, type_of}
use Rattle.repo_api.specs.Laws.{IsCallable, CallsAreCallable}
use Rattle.repo_api.specs.Parameters.{all_parameters}
use Rattle.repo_api.specs.Queries.{only, query_bodies, query_text, is_query_body}
use Rattle.repo_api.proofs.OriginLemmas.{ok_through, origin}
use Rattle.repo_api.proofs.ParameterLemmas.{are_texts, values_are_texts}
use Rattle.repo_api.proofs.ValidLemmas.{no_read, same_op}

length_steps : (t : Txn) (q : Query) (s n : ℕ) → length (steps_from t q s n) ≡ n
length_steps t q s zero = refl
length_steps t q s (suc n) = ap suc (length_steps t q (suc s) n)

-- a read of a query of at most 256 look-ups
read_is_callable : (txn : Option Txn) (q : Query) → lookups_of q ≤ 256 → IsCallable (ops.Read txn (asks.Query q))
read_is_callable None q few = record { no_step = refl; few = omega arith }
read_is_callable (Some t) q few = record { no_step = refl; few = go (is_level t.level ReadCommitted) } where
  go : (b : Bool) → length (if b then steps_from t q 0 (lookups_of q) else ops.Read (Some t) (asks.Query q) ∷ []) ≤ 256
  go true = let n = length_steps t q 0 (lookups_of q) in omega (arith, n, few)
  go false = omega arith

asks_listed : (txn : Option Txn) (s p o : Option Term) (contexts : List Graph) → IsCallable (ops.Read txn (asks.List s p o contexts))
asks_listed None s p o contexts = record { no_step = refl; few = omega arith }
asks_listed (Some t) s p o contexts = record { no_step = refl; few = omega arith }

asks_sized : (txn : Option Txn) (contexts : List Graph) → IsCallable (ops.Read txn (asks.Size contexts))
asks_sized None contexts = record { no_step = refl; few = omega arith }
asks_sized (Some t) contexts = record { no_step = refl; few = omega arith }

-- the one text among some that are UTF-8 is UTF-8
only_text : (texts : List (List ℕ)) (text : List ℕ) → All IsUtf8 texts → only texts ≡ Ok text → IsUtf8 text
only_text [] text all e = cc
only_text (x ∷ []) text all e = subst IsUtf8 (let same : x ≡ text = cc in same) (All-head IsUtf8 x [] all)
only_text (x ∷ y ∷ xs) text all e = cc

body_by : (r : SeenRequest) (test : Bool) → (test ≡ true → IsUtf8 r.body) → All IsUtf8 (if test then r.body ∷ [] else [])
body_by r true told = All-cons IsUtf8 r.body [] (told refl) (All-nil IsUtf8)
body_by r false told = All-nil IsUtf8

last_of_three : (a b c : Bool) → (a && b && c) ≡ true → c ≡ true
last_of_three true true c e = e
last_of_three true false c e = cc
last_of_three false b c e = cc

body_text : (r : SeenRequest) → All IsUtf8 (query_bodies r)
body_text r = body_by r (is_query_body r) (λ e.
    IsUtf8-from_is_utf8 r.body (last_of_three (is_query_text (type_of r.head.fields)) (not (is_empty r.body)) (is_utf8 r.body) e))

-- a query of a request has at most 256 look-ups
few_in_query : ParsedAreWellFormed → FewLookups → (r : SeenRequest) (q : Query) → QueryIn r (all_parameters r) (Ok q) → lookups_of q ≤ 256
few_in_query parsed few r q x =
    let language = ok_through _ _ q x in
    let text = ok_through _ _ q language.2 in
    let binding = ok_through _ _ q text.2 in
    let texts = All-append IsUtf8 (values_of (codes "query") (all_parameters r)) (query_bodies r)
    (values_are_texts (codes "query") (all_parameters r) (are_texts r)) (body_text r) in
    few q (parsed text.0 q (only_text (values_of (codes "query") (all_parameters r) ++ query_bodies r) text.0 texts (sym text.1)) binding.2)

-- the op of a task is callable where the op that it asks is
as_op : (op other : Op) → IsCallable other → op ≡ other → IsCallable op
as_op op other x e = subst IsCallable (sym e) x

callable : ParsedAreWellFormed → FewLookups → (r : SeenRequest) (task : Task) (op : Op) (form : Form) → Asks r task (Ok (op, form)) → IsCallable op
callable parsed few r (tasks.Query txn) op form x =
    let may = ok_through _ _ (op, form) x in
    let query = ok_through _ _ (op, form) may.2 in
    no_read op r _ _ form query.2 (as_op op _ (read_is_callable txn query.0 (few_in_query parsed few r query.0 query.1)))
callable parsed few r (tasks.List txn) op form x =
    let it = ok_through _ _ (op, form) x in no_read op r _ _ form it.2 (as_op op _ (asks_listed txn it.0.s it.0.p it.0.o it.0.contexts))
callable parsed few r (tasks.Size txn) op form x =
    let it = ok_through _ _ (op, form) x in as_op op _ (asks_sized txn it.0) (same_op op _ form _ it.2)
callable parsed few r tasks.Contexts op form x = no_read op r _ _ form x (as_op op _ (record { no_step = refl; few = omega arith }))
callable parsed few r (tasks.Write txn writing) op form x =
    let kind = ok_through _ _ (op, form) x in
    let contexts = ok_through _ _ (op, form) kind.2 in
    let quads = ok_through _ _ (op, form) contexts.2 in
    as_op op _ (record { no_step = refl; few = omega arith }) (same_op op _ form _ quads.2)
callable parsed few r tasks.Remove op form x =
    let it = ok_through _ _ (op, form) x in as_op op _ (record { no_step = refl; few = omega arith }) (same_op op _ form _ it.2)
callable parsed few r tasks.ListNames op form x = no_read op r _ _ form x (as_op op _ (record { no_step = refl; few = omega arith }))
callable parsed few r tasks.ClearNames op form x = as_op op _ (record { no_step = refl; few = omega arith }) (same_op op _ form _ x)
callable parsed few r (tasks.GetName prefix) op form x =
    let it = ok_through _ _ (op, form) x in as_op op _ (record { no_step = refl; few = omega arith }) (same_op op _ form _ it.2)
callable parsed few r (tasks.PutName prefix) op form x =
    let it = ok_through _ _ (op, form) x in
    let name = ok_through _ _ (op, form) it.2 in
    as_op op _ (record { no_step = refl; few = omega arith }) (same_op op _ form _ name.2)
callable parsed few r (tasks.RemoveName prefix) op form x =
    let it = ok_through _ _ (op, form) x in as_op op _ (record { no_step = refl; few = omega arith }) (same_op op _ form _ it.2)
callable parsed few r tasks.Begin op form x =
    let it = ok_through _ _ (op, form) x in as_op op _ (record { no_step = refl; few = omega arith }) (same_op op _ form _ it.2)
callable parsed few r (tasks.Commit t) op form x = as_op op _ (record { no_step = refl; few = omega arith }) (same_op op _ form _ x)
callable parsed few r (tasks.Rollback t) op form x = as_op op _ (record { no_step = refl; few = omega arith }) (same_op op _ form _ x)
callable parsed few r (tasks.Ping t) op form x = as_op op _ (record { no_step = refl; few = omega arith }) (same_op op _ form _ x)

pub calls_are_callable : ParsedAreWellFormed → FewLookups → CallsAreCallable
calls_are_callable parsed few r repos repo op form x =
    let from = origin r repos repo op form x in
    callable parsed few r from.1.0 op form from.1.1
