-- A request is one call, or it has one first refusal: what each check may answer is fixed.
use Rattle.std.proofs.Common.{◌≡◌, ℕ, List, Option, Some, None, Result, Ok, Err, refl, sym, ap, ◌∙◌, find, encode_utf8_all}
use Rattle.std.proofs.lemmas.Option.{same_Some}
use Rattle.std.proofs.lemmas.Str.{encodes_same}
use Rattle.journal.specs.declared.txn.Txn.{Txn}
use Rattle.journal.specs.declared.op.Op.{Op}
use Rattle.media.specs.declared.form.Form.{Form}
use Rattle.nquads_line.specs.declared.kind.Kind.{Kind as DocumentKind}
use Rattle.nquads.specs.Laws.{OneReading, OneFirstBadLine, NotBoth}
use Rattle.query_grammar.specs.QueryText.{OneFault, OneQuery}
use Rattle.http_frame.specs.Messages.{SeenRequest}
use Rattle.api_parts.specs.Laws.{OneSelection, OneContexts, OneFirstBad, BadOrSelection}
use Rattle.api_parts.specs.Selections.{name_of}
use Rattle.api_paths.specs.TransactionNames.{OneTransaction}
use Rattle.api_calls.specs.declared.fault.ApiFault.TheVariants as faults
use Rattle.repo_api.specs.declared.resource.Part.{Part}
use Rattle.repo_api.specs.declared.resource.Resource.{Resource}
use Rattle.repo_api.specs.declared.resource.Resource.TheVariants.{Protocol, Repositories, Of, Transaction}
use Rattle.repo_api.specs.declared.method.Method.{Method}
use Rattle.repo_api.specs.declared.method.Method.TheVariants.{Get, Post, Put, Delete}
use Rattle.repo_api.specs.declared.task.Task.{Task}
use Rattle.repo_api.specs.declared.task.Task.TheVariants as tasks
use Rattle.repo_api.specs.Calls.{GetsAmong, QueryIn, Asks, AsksPart, Acts, AsksTransaction, IsTransaction, CallsFor}
use Rattle.repo_api.specs.Content.{IsContent, line_fault}
use Rattle.repo_api.specs.Laws.{OneCall}
use Rattle.repo_api.specs.Parameters.{IsSelected, AreInContexts, is_binding, HasNoBinding, target_parameters, all_parameters}
use Rattle.repo_api.specs.Queries.{IsQueryOf, forms_of}
use Rattle.repo_api.specs.Resources.{IsResource, IsThere, segments_of}
use Rattle.repo_api.specs.Tasks.{bad}
use Rattle.repo_api.specs.Paths.{resource_at}
use Rattle.repo_api.proofs.CheckLemmas.{Once, once_then, once_is, once_passes}
use Rattle.repo_api.proofs.ResourceLemmas.{resource_found}

-- the laws of the crates below
pub record Facts : Type 0 where
  pub selection : OneSelection
  pub contexts : OneContexts
  pub first_bad : OneFirstBad
  pub apart : BadOrSelection
  pub transaction : OneTransaction
  pub reading : OneReading
  pub line : OneFirstBadLine
  pub not_both : NotBoth
  pub query : OneQuery
  pub fault : OneFault

same_resource : (a b : Resource) → segments_of a ≡ segments_of b → a ≡ b
same_resource a b e = same_Some a b (sym (resource_found a) ∙ ap resource_at e ∙ resource_found b)

once_resource : (target : List ℕ) → Once (IsResource target)
once_resource target (Ok a) (Ok b) p q = ap Ok (same_resource a b (same_Some (segments_of a) (segments_of b) (sym p ∙ q)))
once_resource target (Ok a) (Err f) p q = absurd (q.0 a p)
once_resource target (Err f) (Ok b) p q = absurd (p.0 b q)
once_resource target (Err f) (Err g) p q = ap Err (p.1 ∙ sym q.1)

once_there : (repos : List (List ℕ)) (id : List ℕ) → Once (IsThere repos id)
once_there repos id (Ok a) (Ok b) p q = refl
once_there repos id (Ok a) (Err f) p q = absurd (q.0 p)
once_there repos id (Err f) (Ok b) p q = absurd (p.0 q)
once_there repos id (Err f) (Err g) p q = ap Err (p.1 ∙ sym q.1)

once_transaction : Facts → (name : List ℕ) → Once (IsTransaction name)
once_transaction facts name (Ok a) (Ok b) p q = ap Ok (facts.transaction name a b p q)
once_transaction facts name (Ok a) (Err f) p q = absurd (q.0 a p)
once_transaction facts name (Err f) (Ok b) p q = absurd (p.0 b q)
once_transaction facts name (Err f) (Err g) p q = ap Err (p.1 ∙ sym q.1)

once_selected : Facts → (pairs : List (List ℕ × List ℕ)) → Once (IsSelected pairs)
once_selected facts pairs (Ok a) (Ok b) p q = ap Ok (facts.selection pairs a b p q)
once_selected facts pairs (Ok a) (Err f) p q = absurd ((facts.apart pairs).0 a q.0 p q.1)
once_selected facts pairs (Err f) (Ok b) p q = absurd ((facts.apart pairs).0 b p.0 q p.1)
once_selected facts pairs (Err f) (Err g) p q = ap Err (p.2 ∙ ap (λ parameter. bad (name_of parameter)) (facts.first_bad pairs p.0 q.0 p.1 q.1) ∙ sym q.2)

once_contexts : Facts → (pairs : List (List ℕ × List ℕ)) → Once (AreInContexts pairs)
once_contexts facts pairs (Ok a) (Ok b) p q = ap Ok (facts.contexts pairs a b p q)
once_contexts facts pairs (Ok a) (Err f) p q = absurd ((facts.apart pairs).1 a p q.0)
once_contexts facts pairs (Err f) (Ok b) p q = absurd ((facts.apart pairs).1 b q p.0)
once_contexts facts pairs (Err f) (Err g) p q = ap Err (p.1 ∙ sym q.1)

found_or_none : (found : Option (List ℕ × List ℕ)) (pair : List ℕ × List ℕ) → found ≡ None → found ≡ Some pair → ⊥
found_or_none found pair e g = cc

once_binding : (pairs : List (List ℕ × List ℕ)) → Once (HasNoBinding pairs)
once_binding pairs (Ok a) (Ok b) p q = refl
once_binding pairs (Ok a) (Err f) p q = absurd (found_or_none (find is_binding pairs) q.0 p q.1)
once_binding pairs (Err f) (Ok b) p q = absurd (found_or_none (find is_binding pairs) p.0 q p.1)
once_binding pairs (Err f) (Err g) p q =
    let same : p.0 ≡ q.0 = same_Some p.0 q.0 (sym p.1 ∙ q.1) in
    let name : p.2 ≡ q.2 = encodes_same p.2 q.2 (p.3 ∙ ap (λ (pair : List ℕ × List ℕ). pair.0) same ∙ sym q.3) in
    ap Err (p.4 ∙ ap bad name ∙ sym q.4)

once_content : Facts → (kind : DocumentKind) (body : List ℕ) → Once (IsContent kind body)
once_content facts kind body (Ok a) (Ok b) p q = ap Ok (facts.reading kind body a b p q)
once_content facts kind body (Ok a) (Err f) p q = absurd (facts.not_both kind body a q.0 p q.1)
once_content facts kind body (Err f) (Ok b) p q = absurd (facts.not_both kind body b p.0 q p.1)
once_content facts kind body (Err f) (Err g) p q = ap Err (p.2 ∙ ap line_fault (facts.line kind body p.0 q.0 p.1 q.1) ∙ sym q.2)

once_query : Facts → (text : List ℕ) → Once (IsQueryOf text)
once_query facts text (Ok a) (Ok b) p q = ap Ok (facts.query text a b p q)
once_query facts text (Ok a) (Err f) p q = absurd (q.0 a p)
once_query facts text (Err f) (Ok b) p q = absurd (p.0 b q)
once_query facts text (Err f) (Err g) p q = ap Err (p.3 ∙ ap faults.Query (facts.fault text p.1 q.1 p.2 q.2) ∙ sym q.3)

once_among : (r : SeenRequest) (offers : List Form) (op : Op) → Once (GetsAmong r offers op)
once_among r offers op = once_then _ _ (once_is _) (λ form. once_is _)

once_query_in : Facts → (r : SeenRequest) (pairs : List (List ℕ × List ℕ)) → Once (QueryIn r pairs)
once_query_in facts r pairs =
    once_then _ _ (once_passes _ _) (λ a. once_then _ _ (once_is _) (λ text. once_then _ _ (once_binding pairs) (λ b. once_query facts text)))

once_asks : Facts → (r : SeenRequest) (task : Task) → Once (Asks r task)
once_asks facts r (tasks.Query txn) = once_then _ _ (once_passes _ _) (λ a. once_then _ _ (once_query_in facts r (all_parameters r)) (λ query. once_among r (forms_of query) _))
once_asks facts r (tasks.List txn) = once_then _ _ (once_selected facts (target_parameters r)) (λ it. once_among r _ _)
once_asks facts r (tasks.Size txn) = once_then _ _ (once_contexts facts (target_parameters r)) (λ contexts. once_is _)
once_asks facts r tasks.Contexts = once_among r _ _
once_asks facts r (tasks.Write txn writing) =
    once_then _ _ (once_is _) (λ kind. once_then _ _ (once_contexts facts (target_parameters r)) (λ contexts. once_then _ _ (once_content facts kind r.body) (λ quads. once_is _)))
once_asks facts r tasks.Remove = once_then _ _ (once_selected facts (target_parameters r)) (λ it. once_is _)
once_asks facts r tasks.ListNames = once_among r _ _
once_asks facts r tasks.ClearNames = once_is _
once_asks facts r (tasks.GetName prefix) = once_then _ _ (once_passes _ _) (λ a. once_is _)
once_asks facts r (tasks.PutName prefix) = once_then _ _ (once_passes _ _) (λ a. once_then _ _ (once_is _) (λ name. once_is _))
once_asks facts r (tasks.RemoveName prefix) = once_then _ _ (once_passes _ _) (λ a. once_is _)
once_asks facts r tasks.Begin = once_then _ _ (once_is _) (λ level. once_is _)
once_asks facts r (tasks.Commit txn) = once_is _
once_asks facts r (tasks.Rollback txn) = once_is _
once_asks facts r (tasks.Ping txn) = once_is _

once_part : Facts → (r : SeenRequest) (part : Part) → Once (AsksPart r part)
once_part facts r part = once_then _ _ (once_is _) (λ task. once_then _ _ (once_passes _ _) (λ a. once_asks facts r task))

once_acts : Facts → (r : SeenRequest) (txn : Txn) → Once (Acts r txn)
once_acts facts r txn = once_then _ _ (once_passes _ _) (λ a. once_then _ _ (once_is _) (λ task. once_asks facts r task))

once_in_transaction : Facts → (r : SeenRequest) (txn : Txn) (method : Option Method) → Once (AsksTransaction r txn method)
once_in_transaction facts r txn (Some Put) = once_acts facts r txn
once_in_transaction facts r txn (Some Post) = once_acts facts r txn
once_in_transaction facts r txn (Some Delete) = once_then _ _ (once_passes _ _) (λ a. once_asks facts r (tasks.Rollback txn))
once_in_transaction facts r txn (Some Get) = once_is _
once_in_transaction facts r txn None = once_is _

once_for : Facts → (r : SeenRequest) (repos : List (List ℕ)) (resource : Resource) → Once (CallsFor r repos resource)
once_for facts r repos Protocol = once_then _ _ (once_passes _ _) (λ a. once_then _ _ (once_passes _ _) (λ b. once_is _))
once_for facts r repos Repositories =
    once_then _ _ (once_passes _ _) (λ a. once_then _ _ (once_passes _ _) (λ b. once_then _ _ (once_is _) (λ form. once_is _)))
once_for facts r repos (Of id part) = once_then _ _ (once_there repos id) (λ a. once_then _ _ (once_part facts r part) (λ asked. once_is _))
once_for facts r repos (Transaction id name) =
    once_then _ _ (once_there repos id) (λ a. once_then _ _ (once_transaction facts name) (λ txn. once_then _ _ (once_in_transaction facts r txn _) (λ asked. once_is _)))

pub one_call : Facts → OneCall
one_call facts r repos = once_then _ _ (once_resource (encode_utf8_all r.head.target)) (λ resource. once_for facts r repos resource)
