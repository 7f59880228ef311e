-- The call that a request is, or its first refusal: resource by resource, with the checks of each in their order.
use Rattle.std.specs.Prelude.{◌≡◌, ℕ, List, Option, Some, None, Result, Ok, Err, codes, encode_utf8_all, not}
use Rattle.rdf_term.specs.declared.graph.Graph.{Graph}
use Rattle.rdf_term.specs.Statement.{Statement}
use Rattle.change_set.specs.declared.change.Change.{Change}
use Rattle.query_model.specs.declared.query.Query.{Query}
use Rattle.journal.specs.declared.txn.Txn.{Txn}
use Rattle.journal.specs.declared.ask.Ask.TheVariants as asks
use Rattle.journal.specs.declared.op.Op.{Op}
use Rattle.journal.specs.declared.op.Op.TheVariants as ops
use Rattle.journal.specs.declared.op.NamesOp.TheVariants as names
use Rattle.media.specs.declared.form.Form.{Form}
use Rattle.media.specs.declared.form.Form.TheVariants.{PlainText}
use Rattle.http_frame.specs.Messages.{SeenRequest}
use Rattle.api_parts.specs.Parameters.{values_of}
use Rattle.api_parts.specs.Writes.{additions, deletions, removals, replacements}
use Rattle.api_paths.specs.Prefixes.{is_prefix}
use Rattle.api_paths.specs.TransactionNames.{IsTransactionName}
use Rattle.api_calls.specs.declared.call.Call.{Call}
use Rattle.api_calls.specs.declared.call.Call.TheVariants as calls
use Rattle.api_calls.specs.declared.fault.ApiFault.{ApiFault}
use Rattle.api_calls.specs.declared.fault.ApiFault.TheVariants as faults
use Rattle.api_calls.specs.declared.fault.Allow.TheVariants as allow
use Rattle.repo_api.specs.declared.resource.Part.{Part}
use Rattle.repo_api.specs.declared.resource.Resource.{Resource}
use Rattle.repo_api.specs.declared.resource.Resource.TheVariants.{Protocol, Repositories, Of, Transaction}
use Rattle.repo_api.specs.declared.method.Method.{Method}
use Rattle.repo_api.specs.declared.method.Method.TheVariants.{Get, Post, Put, Delete}
use Rattle.repo_api.specs.declared.task.Task.{Task}
use Rattle.repo_api.specs.declared.task.Task.TheVariants as tasks
use Rattle.repo_api.specs.declared.task.Writing.{Writing}
use Rattle.repo_api.specs.declared.task.Writing.TheVariants.{Adds, Replaces, Removes}
use Rattle.repo_api.specs.Accepts.{quad_forms, table_forms, form_among}
use Rattle.repo_api.specs.Checks.{Then, Is, Passes}
use Rattle.repo_api.specs.Content.{is_coded, type_of, kind_of, IsContent, namespace_of}
use Rattle.repo_api.specs.Parameters.{target_parameters, all_parameters, IsSelected, AreInContexts, level_in, is_sparql, HasNoBinding}
use Rattle.repo_api.specs.Queries.{may_query, query_text, IsQueryOf, forms_of}
use Rattle.repo_api.specs.Resources.{IsResource, IsThere, is_text, method_of}
use Rattle.repo_api.specs.Tasks.{bad, task_at, task_of_actions}

-- an op on a repository with the form of its reply, or the first refusal
abbrev pub Asked : Type 0
Asked = Result (Op × Form) ApiFault

-- this op, with this form
abbrev pub Gets : Op → Form → Asked → Type 0
Gets op form = Is (Ok (op, form))

-- this op, with the form that is chosen among these
abbrev pub GetsAmong : SeenRequest → List Form → Op → Asked → Type 0
GetsAmong r offers op = Then (Is (form_among r.head.fields offers)) (λ form. Gets op form)

-- the changes of a write
abbrev pub changes_of : Writing → List Graph → List Statement → List Change
changes_of Adds contexts quads = additions contexts quads
changes_of Replaces contexts quads = replacements contexts quads
changes_of Removes contexts quads = deletions contexts quads

-- the query by queryLn, by its text, without names that bind variables, and by what its text is
abbrev pub QueryIn : SeenRequest → List (List ℕ × List ℕ) → Result Query ApiFault → Type 0
QueryIn r pairs =
    Then (Passes (bad (codes "queryLn")) (is_sparql (values_of (codes "queryLn") pairs))) (λ _.
    Then (Is (query_text r pairs)) (λ text.
    Then (HasNoBinding pairs) (λ _. IsQueryOf text)))

abbrev pub Queries : SeenRequest → Option Txn → List (List ℕ × List ℕ) → Asked → Type 0
Queries r txn pairs = Then (QueryIn r pairs) (λ query. GetsAmong r (forms_of query) (ops.Read txn (asks.Query query)))

-- a document of a type that is taken, in contexts
abbrev pub Writes : SeenRequest → Option Txn → Writing → Asked → Type 0
Writes r txn writing =
    Then (Is (kind_of (type_of r.head.fields))) (λ kind.
    Then (AreInContexts (target_parameters r)) (λ contexts.
    Then (IsContent kind r.body) (λ quads.
    Gets (ops.Write txn (changes_of writing contexts quads)) PlainText)))

-- a prefix
abbrev pub ForPrefix : List ℕ → (Asked → Type 0) → Asked → Type 0
ForPrefix prefix next = Then (Passes (bad (codes "prefix")) (is_prefix prefix)) (λ _. next)

-- the op of each task, or the first refusal of its checks
abbrev pub Asks : SeenRequest → Task → Asked → Type 0
Asks r (tasks.Query txn) = Then (Passes faults.Media (may_query r)) (λ _. Queries r txn (all_parameters r))
Asks r (tasks.List txn) =
    Then (IsSelected (target_parameters r)) (λ it. GetsAmong r quad_forms (ops.Read txn (asks.List it.s it.p it.o it.contexts)))
Asks r (tasks.Size txn) =
    Then (AreInContexts (target_parameters r)) (λ contexts. Gets (ops.Read txn (asks.Size contexts)) PlainText)
Asks r tasks.Contexts = GetsAmong r table_forms (ops.Read None asks.Contexts)
Asks r (tasks.Write txn writing) = Writes r txn writing
Asks r tasks.Remove = Then (IsSelected (target_parameters r)) (λ it. Gets (ops.Write None (removals it)) PlainText)
Asks r tasks.ListNames = GetsAmong r table_forms (ops.Names names.List)
Asks r tasks.ClearNames = Gets (ops.Names names.Clear) PlainText
Asks r (tasks.GetName prefix) = ForPrefix prefix (Gets (ops.Names (names.Get prefix)) PlainText)
Asks r (tasks.PutName prefix) =
    ForPrefix prefix (Then (Is (namespace_of r.body)) (λ name. Gets (ops.Names (names.Put prefix name)) PlainText))
Asks r (tasks.RemoveName prefix) = ForPrefix prefix (Gets (ops.Names (names.Remove prefix)) PlainText)
Asks r tasks.Begin = Then (Is (level_in (all_parameters r))) (λ level. Gets (ops.Begin level) PlainText)
Asks r (tasks.Commit txn) = Gets (ops.Commit txn) PlainText
Asks r (tasks.Rollback txn) = Gets (ops.Rollback txn) PlainText
Asks r (tasks.Ping txn) = Gets (ops.Ping txn) PlainText

-- no body that is coded is taken
abbrev pub Uncoded : {A : Type 0} → SeenRequest → (Result A ApiFault → Type 0) → Result A ApiFault → Type 0
Uncoded r next = Then (Passes faults.Media (not (is_coded r.head.fields))) (λ _. next)

-- a part of a repository
abbrev pub AsksPart : SeenRequest → Part → Asked → Type 0
AsksPart r part = Then (Is (task_at part (method_of r.head.method))) (λ task. Uncoded r (Asks r task))

-- an action in a transaction, by the parameters of the target
abbrev pub ActsByParameters : SeenRequest → Txn → Asked → Type 0
ActsByParameters r txn = Then (Is (task_of_actions txn (values_of (codes "action") (target_parameters r)))) (λ task. Asks r task)

abbrev pub Acts : SeenRequest → Txn → Asked → Type 0
Acts r txn = Uncoded r (ActsByParameters r txn)

-- a transaction: PUT and POST ask by an action, and DELETE rolls back
abbrev pub AsksTransaction : SeenRequest → Txn → Option Method → Asked → Type 0
AsksTransaction r txn (Some Put) = Acts r txn
AsksTransaction r txn (Some Post) = Acts r txn
AsksTransaction r txn (Some Delete) = Uncoded r (Asks r (tasks.Rollback txn))
AsksTransaction r txn (Some Get) = Is (Err (faults.Method allow.PostPutDelete))
AsksTransaction r txn None = Is (Err (faults.Method allow.PostPutDelete))

-- the call on a repository
abbrev pub On : List ℕ → Op × Form → Result Call ApiFault → Type 0
On repo asked = Is (Ok (calls.On repo asked.0 asked.1))

-- the transaction of a name
abbrev pub IsTransaction : List ℕ → Result Txn ApiFault → Type 0
IsTransaction name (Ok txn) = IsTransactionName name txn
IsTransaction name (Err fault) = ((txn : Txn) → IsTransactionName name txn → ⊥) × (fault ≡ faults.BadName)

-- a resource that has GET alone
abbrev pub OnlyGot : SeenRequest → (Result Call ApiFault → Type 0) → Result Call ApiFault → Type 0
OnlyGot r next = Then (Passes (faults.Method allow.Get) (is_text r.head.method (codes "GET"))) (λ _. Uncoded r next)

-- the call of a request for each resource, where these are the repositories
abbrev pub CallsFor : SeenRequest → List (List ℕ) → Resource → Result Call ApiFault → Type 0
CallsFor r repos Protocol = OnlyGot r (Is (Ok calls.Protocol))
CallsFor r repos Repositories =
    OnlyGot r (Then (Is (form_among r.head.fields table_forms)) (λ form. Is (Ok (calls.Repositories form))))
CallsFor r repos (Of id part) = Then (IsThere repos id) (λ _. Then (AsksPart r part) (λ asked. On id asked))
CallsFor r repos (Transaction id name) =
    Then (IsThere repos id) (λ _.
    Then (IsTransaction name) (λ txn.
    Then (AsksTransaction r txn (method_of r.head.method)) (λ asked. On id asked)))

-- The call that a request is, or its first refusal.
abbrev pub IsCallOf : SeenRequest → List (List ℕ) → Result Call ApiFault → Type 0
IsCallOf r repos = Then (IsResource (encode_utf8_all r.head.target)) (λ resource. CallsFor r repos resource)
