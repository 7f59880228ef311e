-- What a call comes from: a repository that is there, and a task.
use Rattle.std.proofs.Common.{◌≡◌, ℕ, List, Option, Some, None, Result, Ok, Err, subst, Contains}
use Rattle.journal.specs.declared.txn.Txn.{Txn}
use Rattle.journal.specs.declared.op.Op.{Op}
use Rattle.media.specs.declared.form.Form.{Form}
use Rattle.http_frame.specs.Messages.{SeenRequest}
use Rattle.api_calls.specs.declared.call.Call.{Call}
use Rattle.api_calls.specs.declared.call.Call.TheVariants.{On}
use Rattle.api_calls.specs.declared.fault.ApiFault.{ApiFault}
use Rattle.repo_api.specs.declared.resource.Part.{Part}
use Rattle.repo_api.specs.declared.resource.Resource.{Resource}
use Rattle.repo_api.specs.declared.resource.Resource.TheVariants.{Protocol, Repositories, Of, Transaction}
use Rattle.repo_api.specs.declared.method.Method.{Method}
use Rattle.repo_api.specs.declared.method.Method.TheVariants.{Get, Post, Put, Delete}
use Rattle.repo_api.specs.declared.task.Task.{Task}
use Rattle.repo_api.specs.declared.task.Task.TheVariants as tasks
use Rattle.repo_api.specs.Calls.{Asks, AsksPart, Acts, AsksTransaction, CallsFor, IsCallOf}
use Rattle.repo_api.specs.Checks.{Then, passed, refused}
use Rattle.repo_api.specs.Laws.{OnOneOfThese}

ok_is_err : {A : Type 0} (a : A) (f : ApiFault) → ◌≡◌ {A = Result A ApiFault} (Ok a) (Err f) → ⊥
ok_is_err a f e = cc

-- where the answer is no refusal, the check passed
pub ok_through : {A B : Type 0} (check : Result A ApiFault → Type 0) (next : A → Result B ApiFault → Type 0) (b : B)
    → Then check next (Ok b) → (a : A) × check (Ok a) × next a (Ok b)
ok_through check next b (passed a p q) = (a, p, q)
ok_through check next b (refused f p e) = absurd (ok_is_err b f e)

-- a task asks the op
abbrev pub Comes : SeenRequest → Op → Form → Type 0
Comes r op form = (task : Task) × Asks r task (Ok (op, form))

from_part : (r : SeenRequest) (part : Part) (op : Op) (form : Form) → AsksPart r part (Ok (op, form)) → Comes r op form
from_part r part op form x =
    let task = ok_through _ _ (op, form) x in
    let uncoded = ok_through _ _ (op, form) task.2 in
    (task.0, uncoded.2)

from_action : (r : SeenRequest) (txn : Txn) (op : Op) (form : Form) → Acts r txn (Ok (op, form)) → Comes r op form
from_action r txn op form x =
    let uncoded = ok_through _ _ (op, form) x in
    let task = ok_through _ _ (op, form) uncoded.2 in
    (task.0, task.2)

from_transaction : (r : SeenRequest) (txn : Txn) (method : Option Method) (op : Op) (form : Form) → AsksTransaction r txn method (Ok (op, form)) → Comes r op form
from_transaction r txn (Some Put) op form x = from_action r txn op form x
from_transaction r txn (Some Post) op form x = from_action r txn op form x
from_transaction r txn (Some Delete) op form x = let uncoded = ok_through _ _ (op, form) x in (tasks.Rollback txn, uncoded.2)
from_transaction r txn (Some Get) op form x = absurd (ok_is_err (op, form) _ x)
from_transaction r txn None op form x = absurd (ok_is_err (op, form) _ x)

-- the repository is there, and a task asks the op
abbrev pub Origin : SeenRequest → List (List ℕ) → List ℕ → Op → Form → Type 0
Origin r repos repo op form = Contains repos repo × Comes r op form

same_call : (a b : Call) → ◌≡◌ {A = Result Call ApiFault} (Ok a) (Ok b) → a ≡ b
same_call a b e = cc

same_on : (repo id : List ℕ) (op op' : Op) (form form' : Form) → On repo op form ≡ On id op' form' → (id ≡ repo) × (op' ≡ op) × (form' ≡ form)
same_on repo id op op' form form' e = (cc, cc, cc)

moved : (r : SeenRequest) (repos : List (List ℕ)) (repo id : List ℕ) (op op' : Op) (form form' : Form)
    → ◌≡◌ {A = Result Call ApiFault} (Ok (On repo op form)) (Ok (On id op' form')) → Contains repos id → Comes r op' form' → Origin r repos repo op form
moved r repos repo id op op' form form' e there comes =
    let same = same_on repo id op op' form form' (same_call _ _ e) in
    (subst (Contains repos) same.0 there, subst (λ (f : Form). Comes r op f) same.2 (subst (λ (o : Op). Comes r o form') same.1 comes))

by_resource : (r : SeenRequest) (repos : List (List ℕ)) (resource : Resource) (repo : List ℕ) (op : Op) (form : Form)
    → CallsFor r repos resource (Ok (On repo op form)) → Origin r repos repo op form
by_resource r repos Protocol repo op form x =
    let got = ok_through _ _ (On repo op form) x in
    let uncoded = ok_through _ _ (On repo op form) got.2 in
    let other = same_call _ _ uncoded.2 in
    cc
by_resource r repos Repositories repo op form x =
    let got = ok_through _ _ (On repo op form) x in
    let uncoded = ok_through _ _ (On repo op form) got.2 in
    let chosen = ok_through _ _ (On repo op form) uncoded.2 in
    let other = same_call _ _ chosen.2 in
    cc
by_resource r repos (Of id part) repo op form x =
    let there = ok_through _ _ (On repo op form) x in
    let asked = ok_through _ _ (On repo op form) there.2 in
    moved r repos repo id op asked.0.0 form asked.0.1 asked.2 there.1 (from_part r part asked.0.0 asked.0.1 asked.1)
by_resource r repos (Transaction id name) repo op form x =
    let there = ok_through _ _ (On repo op form) x in
    let txn = ok_through _ _ (On repo op form) there.2 in
    let asked = ok_through _ _ (On repo op form) txn.2 in
    moved r repos repo id op asked.0.0 form asked.0.1 asked.2 there.1 (from_transaction r txn.0 _ asked.0.0 asked.0.1 asked.1)

pub origin : (r : SeenRequest) (repos : List (List ℕ)) (repo : List ℕ) (op : Op) (form : Form) → IsCallOf r repos (Ok (On repo op form)) → Origin r repos repo op form
origin r repos repo op form x = let resource = ok_through _ _ (On repo op form) x in by_resource r repos resource.0 repo op form resource.2

pub on_one_of_these : OnOneOfThese
on_one_of_these r repos repo op form x = (origin r repos repo op form x).0
