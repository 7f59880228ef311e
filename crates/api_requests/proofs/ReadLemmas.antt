-- The checks that a request goes through that is written of its parts, each of them passed.
use Rattle.std.proofs.Common.{◌≡◌, ℕ, List, [], ◌∷◌, ◌++◌, Bool, true, false, not, if◌then◌else◌, Option, Some, None, Ok, refl, sym, ap, ◌∙◌, subst, codes, encode_utf8_all, Contains, append-nil}
use Rattle.httparse.specs.Grammar.{trim_ows}
use Rattle.nquads_line.specs.declared.kind.Kind.TheVariants.{Quads}
use Rattle.journal.specs.declared.txn.Txn.{Txn}
use Rattle.journal.specs.declared.op.Op.{Op}
use Rattle.journal.specs.declared.op.Op.TheVariants as ops
use Rattle.media.specs.declared.form.Form.{Form}
use Rattle.media.specs.declared.form.Form.TheVariants.{PlainText}
use Rattle.media.specs.Choice.{chosen}
use Rattle.media.specs.Forms.{content_type_of}
use Rattle.http_frame.specs.Messages.{SeenRequest}
use Rattle.api_parts.specs.Parameters.{parameters, values_of}
use Rattle.api_paths.specs.TransactionNames.{IsTransactionName}
use Rattle.api_calls.specs.declared.call.Call.TheVariants as calls
use Rattle.api_calls.specs.declared.fault.ApiFault.TheVariants as faults
use Rattle.repo_api.specs.declared.method.Method.{Method}
use Rattle.repo_api.specs.declared.method.Method.TheVariants.{Put, Delete}
use Rattle.repo_api.specs.declared.resource.Part.{Part}
use Rattle.repo_api.specs.declared.resource.Resource.TheVariants.{Of, Transaction}
use Rattle.repo_api.specs.declared.task.Task.{Task}
use Rattle.repo_api.specs.Accepts.{accept_of, accepted, form_among}
use Rattle.repo_api.specs.Calls.{GetsAmong, Asks, AsksTransaction, IsCallOf}
use Rattle.repo_api.specs.Checks.{passed, tested}
use Rattle.repo_api.specs.Content.{is_coded, type_of, kind_of, is_form, is_query_text}
use Rattle.repo_api.specs.Parameters.{target_parameters, all_parameters}
use Rattle.repo_api.specs.Resources.{Names, method_of}
use Rattle.repo_api.specs.Tasks.{task_at, task_of_actions}
use Rattle.api_requests.specs.Requests.{accept_fields, content_fields}
use Rattle.api_requests.proofs.FormLemmas.{IsChosen}

-- the fields of a request
abbrev pub FieldsOf : List ℕ → Option Form → Option (List ℕ × List ℕ) → List (List ℕ × List ℕ)
FieldsOf host accept content = (codes "Host", encode_utf8_all host) ∷ accept_fields accept ++ content_fields content

-- no body is coded
pub is_uncoded : (host : List ℕ) (accept : Option Form) (content : Option (List ℕ × List ℕ)) → is_coded (FieldsOf host accept content) ≡ false
is_uncoded host None None = refl
is_uncoded host None (Some c) = refl
is_uncoded host (Some f) None = refl
is_uncoded host (Some f) (Some c) = refl

-- the value of Accept
accept_is : (host : List ℕ) (form : Form) (content : Option (List ℕ × List ℕ)) → accept_of (FieldsOf host (Some form) content) ≡ content_type_of form
accept_is host form None = refl
accept_is host form (Some c) = refl

pub form_found : (host : List ℕ) (form : Form) (content : Option (List ℕ × List ℕ)) (offers : List Form) → IsChosen offers form
    → Ok form ≡ form_among (FieldsOf host (Some form) content) offers
form_found host form content offers is = sym (ap accepted (ap (λ (accept : List ℕ). chosen accept offers) (accept_is host form content) ∙ is))

pub gets_among : (host : List ℕ) (form : Form) (content : Option (List ℕ × List ℕ)) (r : SeenRequest) (offers : List Form) (op : Op)
    → r.head.fields ≡ FieldsOf host (Some form) content → IsChosen offers form → GetsAmong r offers op (Ok (op, form))
gets_among host form content r offers op fields is =
    passed form (form_found host form content offers is ∙ ap (λ (fs : List (List ℕ × List ℕ)). form_among fs offers) (sym fields)) refl

-- the type of a body

no_type : (host : List ℕ) (accept : Option Form) → type_of (FieldsOf host accept None) ≡ None
no_type host None = refl
no_type host (Some f) = refl

query_type : (host : List ℕ) (accept : Option Form) (body : List ℕ)
    → type_of (FieldsOf host accept (Some (codes "application/sparql-query", body))) ≡ Some (codes "application/sparql-query")
unfolding trim_ows
query_type host None body = refl
query_type host (Some f) body = refl

document_type : (host : List ℕ) (accept : Option Form) (body : List ℕ)
    → type_of (FieldsOf host accept (Some (codes "application/n-quads", body))) ≡ Some (codes "application/n-quads")
unfolding trim_ows
document_type host None body = refl
document_type host (Some f) body = refl

pub document_kind : (host : List ℕ) (accept : Option Form) (body : List ℕ) → Ok Quads ≡ kind_of (type_of (FieldsOf host accept (Some (codes "application/n-quads", body))))
document_kind host accept body = sym (ap kind_of (document_type host accept body))

-- no body is a form
pub no_form : (host : List ℕ) (accept : Option Form) → is_form (type_of (FieldsOf host accept None)) ≡ false
no_form host accept = ap is_form (no_type host accept)

pub query_is_no_form : (host : List ℕ) (accept : Option Form) (body : List ℕ) → is_form (type_of (FieldsOf host accept (Some (codes "application/sparql-query", body)))) ≡ false
query_is_no_form host accept body = ap is_form (query_type host accept body)

pub query_is_query : (host : List ℕ) (accept : Option Form) (body : List ℕ) → is_query_text (type_of (FieldsOf host accept (Some (codes "application/sparql-query", body)))) ≡ true
query_is_query host accept body = ap is_query_text (query_type host accept body)

-- without a form the parameters are those of the target
pub all_are : (r : SeenRequest) (pairs : List (List ℕ × List ℕ)) → is_form (type_of r.head.fields) ≡ false → target_parameters r ≡ pairs → all_parameters r ≡ pairs
all_are r pairs e is =
    ap (λ (test : Bool). target_parameters r ++ (if test then parameters r.body else [])) e ∙ append-nil (target_parameters r) ∙ is

-- the call on a part of a repository
pub on_part : (r : SeenRequest) (repos : List (List ℕ)) (repo : List ℕ) (part : Part) (task : Task) (op : Op) (form : Form)
    → Names (encode_utf8_all r.head.target) (Of repo part) → Contains repos repo → Ok task ≡ task_at part (method_of r.head.method) → is_coded r.head.fields ≡ false
    → Asks r task (Ok (op, form)) → IsCallOf r repos (Ok (calls.On repo op form))
on_part r repos repo part task op form names there at uncoded asked =
    passed (Of repo part) names (passed tt there (passed (op, form) (passed task at (passed tt (ap (λ (coded : Bool). tested faults.Media (not coded)) (sym uncoded)) asked)) refl))

-- an action in a transaction
pub on_transaction : (r : SeenRequest) (repos : List (List ℕ)) (repo name : List ℕ) (txn : Txn) (task : Task) (op : Op) (form : Form)
    → Names (encode_utf8_all r.head.target) (Transaction repo name) → Contains repos repo → IsTransactionName name txn → method_of r.head.method ≡ Some Put
    → is_coded r.head.fields ≡ false → Ok task ≡ task_of_actions txn (values_of (codes "action") (target_parameters r)) → Asks r task (Ok (op, form))
    → IsCallOf r repos (Ok (calls.On repo op form))
on_transaction r repos repo name txn task op form names there is put uncoded acts asked =
    passed (Transaction repo name) names
    (passed tt there
    (passed txn is
    (passed (op, form)
    (subst (λ (method : Option Method). AsksTransaction r txn method (Ok (op, form))) (sym put)
    (passed tt (ap (λ (coded : Bool). tested faults.Media (not coded)) (sym uncoded)) (passed task acts asked)))
    refl)))

-- a transaction is rolled back by DELETE
pub rolled_back : (r : SeenRequest) (repos : List (List ℕ)) (repo name : List ℕ) (txn : Txn)
    → Names (encode_utf8_all r.head.target) (Transaction repo name) → Contains repos repo → IsTransactionName name txn → method_of r.head.method ≡ Some Delete
    → is_coded r.head.fields ≡ false → IsCallOf r repos (Ok (calls.On repo (ops.Rollback txn) PlainText))
rolled_back r repos repo name txn names there is delete uncoded =
    passed (Transaction repo name) names
    (passed tt there
    (passed txn is
    (passed (ops.Rollback txn, PlainText)
    (subst (λ (method : Option Method). AsksTransaction r txn method (Ok (ops.Rollback txn, PlainText))) (sym delete)
    (passed tt (ap (λ (coded : Bool). tested faults.Media (not coded)) (sym uncoded)) refl))
    refl)))
