-- What holds of calls.
use Rattle.std.specs.Prelude.{◌≡◌, ◌≤◌, ℕ, Bool, true, false, List, Option, Result, Ok, All, Contains, length}
use Rattle.rdf_term.specs.Validity.{IsValidQuad}
use Rattle.change_set.specs.declared.change.Change.{Change}
use Rattle.change_set.specs.declared.change.Change.TheVariants.{Add, Remove, RemoveMatching}
use Rattle.journal.specs.declared.txn.Txn.{Txn}
use Rattle.journal.specs.declared.op.Op.{Op}
use Rattle.journal.specs.declared.op.Op.TheVariants.{Begin, Read, Step, Write, Commit, Rollback, Ping, Names}
use Rattle.media.specs.declared.form.Form.{Form}
use Rattle.http_frame.specs.Messages.{SeenRequest}
use Rattle.api_calls.specs.Calls.{ops_of}
use Rattle.api_calls.specs.declared.call.Call.{Call}
use Rattle.api_calls.specs.declared.call.Call.TheVariants.{On}
use Rattle.api_calls.specs.declared.fault.ApiFault.{ApiFault}
use Rattle.repo_api.specs.Calls.{IsCallOf}

-- a request is one call, or it has one first refusal
abbrev pub OneCall : Type 0
OneCall = (r : SeenRequest) (repos : List (List ℕ)) (answer other : Result Call ApiFault)
    → IsCallOf r repos answer → IsCallOf r repos other → answer ≡ other

-- a call on a repository is on one of those that are there
abbrev pub OnOneOfThese : Type 0
OnOneOfThese = (r : SeenRequest) (repos : List (List ℕ)) (repo : List ℕ) (op : Op) (form : Form)
    → IsCallOf r repos (Ok (On repo op form)) → Contains repos repo

abbrev pub is_step : Op → Bool
is_step (Begin level) = false
is_step (Read txn ask) = false
is_step (Step t query number) = true
is_step (Write txn changes) = false
is_step (Commit t) = false
is_step (Rollback t) = false
is_step (Ping t) = false
is_step (Names names) = false

-- the op is no Step of a query, and makes at most 256 entries
pub record IsCallable (op : Op) : Type 0 where
  pub no_step : is_step op ≡ false
  pub few : length (ops_of op) ≤ 256

-- the op of a call is such a one
abbrev pub CallsAreCallable : Type 0
CallsAreCallable = (r : SeenRequest) (repos : List (List ℕ)) (repo : List ℕ) (op : Op) (form : Form)
    → IsCallOf r repos (Ok (On repo op form)) → IsCallable op

-- what the change adds is a quad of valid terms
abbrev pub IsValidAddition : Change → Type 0
IsValidAddition (Add q) = IsValidQuad q
IsValidAddition (Remove q) = Unit {0}
IsValidAddition (RemoveMatching p) = Unit {0}

-- what a call adds is of valid terms
abbrev pub WritesAreValid : Type 0
WritesAreValid = (r : SeenRequest) (repos : List (List ℕ)) (repo : List ℕ) (txn : Option Txn) (changes : List Change) (form : Form)
    → IsCallOf r repos (Ok (On repo (Write txn changes) form)) → All IsValidAddition changes
