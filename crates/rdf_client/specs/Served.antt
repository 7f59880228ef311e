-- What a session writes for a reply, as a client gets and prints it.
use Rattle.std.specs.Prelude.{◌≡◌, ◌+◌, ℕ, List, [], ◌∷◌, ◌++◌, Bool, false, Option, None, IsTrue, if◌then◌else◌}
use Rattle.std.specs.List.{flat_map}
use Rattle.journal.specs.declared.op.Op.{Op}
use Rattle.journal.specs.declared.reply.Reply.{Reply}
use Rattle.journal.specs.declared.txn.Txn.{Txn}
use Rattle.media.specs.declared.form.Form.{Form}
use Rattle.http_frame.specs.WrittenResponses.{IsReadable}
use Rattle.api_calls.specs.declared.call.Call.{Call}
use Rattle.api_calls.specs.declared.call.Call.TheVariants.{On}
use Rattle.api_replies.specs.Fits.{Fits}
use Rattle.api_replies.specs.Responses.{response, response_bytes}
use Rattle.reply_reading.specs.Laws.{as_read, IsAsked, IsValidReply}
use Rattle.reply_reading.specs.Readings.{is_success}
use Rattle.reply_reading.specs.declared.got.Got.TheVariants as gots
use Rattle.client_script.specs.declared.action.Action.TheVariants as actions
use Rattle.client_script.specs.Printed.{printed, refused_line}
use Rattle.rdf_client.specs.Exchanges.{IsAnswer, request_bytes}
use Rattle.rdf_client.specs.Runs.{Asks, HasEnded, IsRun, Place, Runs, txn_behind}
use Rattle.rdf_client.specs.declared.end.ClientEnd.{ClientEnd}
use Rattle.rdf_client.specs.declared.end.ClientEnd.TheVariants.{Done, Refused}

-- the reply fits the call and grants what was asked, its terms are valid, and its response keeps the limits of a reader
pub record IsServed (call : Call) (repos : List (List ℕ)) (reply : Reply) (closes : Bool) : Type 0 where
  pub fits : Fits call reply
  pub valid : IsValidReply reply
  pub granted : IsTrue (is_success (response call repos reply).status)
  pub readable : IsReadable (response call repos reply) closes

-- What a session writes for a reply is got by the client as that reply, whatever follows it; in a form that leaves the graphs off, quads are got without them.
abbrev pub WrittenIsGot : Type 0
WrittenIsGot = (call : Call) (repos : List (List ℕ)) (reply : Reply) (minor : ℕ) (closes : Bool) (more : List ℕ)
    → IsAsked call → IsServed call repos reply closes
    → IsAnswer call (response_bytes call repos reply minor closes false ++ more) (gots.Reply (as_read call reply)) more

-- Where the next line of a script sends an op, and the responses begin with what a session writes for a reply to it, the run prints that reply and goes on behind both.
abbrev pub ReplyIsPrinted : Type 0
ReplyIsPrinted = (repo host : List ℕ) (at : Place) (rest id : List ℕ) (op : Op) (form : Form) (repos : List (List ℕ)) (reply : Reply) (minor : ℕ) (closes : Bool)
    (more : List ℕ) → Asks repo at (actions.Send (On id op form)) rest → IsServed (On id op form) repos reply closes
    → at.responses ≡ response_bytes (On id op form) repos reply minor closes false ++ more → (end : ClientEnd) (sent text : List ℕ)
    → Runs repo host (record { number = at.number + 1; txn = txn_behind at.txn (On id op form) reply; script = rest; responses = more }) end sent text
    → Runs repo host at end (request_bytes (On id op form) host ++ sent) (printed op reply ++ text)

-- the reply refuses the call, and its response keeps the limits of a reader
pub record IsRefused (call : Call) (repos : List (List ℕ)) (reply : Reply) (closes : Bool) : Type 0 where
  pub refused : is_success (response call repos reply).status ≡ false
  pub readable : IsReadable (response call repos reply) closes

-- What a session writes for a reply that refuses a call is got by the client as the status and the text of its response, whatever follows it.
abbrev pub RefusalIsGot : Type 0
RefusalIsGot = (call : Call) (repos : List (List ℕ)) (reply : Reply) (minor : ℕ) (closes : Bool) (more : List ℕ) → IsRefused call repos reply closes
    → IsAnswer call (response_bytes call repos reply minor closes false ++ more)
    (gots.Refused (response call repos reply).status (record { items = (response call repos reply).body; spare = 0 })) more

-- an answer of a session: the op that a call asked for on the repository of this ID, in which form, the reply, and how its response was written
pub record Answer : Type 0 where
  pub id : List ℕ
  pub op : Op
  pub form : Form
  pub repos : List (List ℕ)
  pub reply : Reply
  pub minor : ℕ
  pub closes : Bool

abbrev pub call_of : Answer → Call
call_of a = On a.id a.op a.form

-- what the session writes for it
abbrev pub answer_bytes : Answer → List ℕ
answer_bytes a = response_bytes (call_of a) a.repos a.reply a.minor a.closes false

-- what the client prints for it: what belongs to the reply, or its refusal
abbrev pub answer_text : Answer → List ℕ
answer_text a =
    let r = response (call_of a) a.repos a.reply in
    if is_success r.status then printed a.op a.reply else refused_line r.status r.body

-- where a script stands, whatever the responses are
abbrev pub stands : ℕ → Option Txn → List ℕ → Place
stands number txn script = record { number = number; txn = txn; script = script; responses = [] }

-- A script is answered so from a place on: its calls are those of the answers in order, each of which grants what was asked, up to the end of the script
-- or to the first one that refuses.
pub data IsAnswered (repo : List ℕ) : ℕ → Option Txn → List ℕ → ClientEnd → List Answer → Type 0 where
  ends : {number : ℕ} {txn : Option Txn} {script : List ℕ} → HasEnded repo (stands number txn script) → IsAnswered repo number txn script Done []
  skips : {number : ℕ} {txn : Option Txn} {script : List ℕ} {end : ClientEnd} {answers : List Answer} (rest : List ℕ)
      → Asks repo (stands number txn script) actions.Skip rest → IsAnswered repo (number + 1) txn rest end answers → IsAnswered repo number txn script end answers
  grants : {number : ℕ} {txn : Option Txn} {script : List ℕ} {end : ClientEnd} (a : Answer) (answers : List Answer) (rest : List ℕ)
      → Asks repo (stands number txn script) (actions.Send (call_of a)) rest → IsServed (call_of a) a.repos a.reply a.closes
      → IsAnswered repo (number + 1) (txn_behind txn (call_of a) a.reply) rest end answers → IsAnswered repo number txn script end (a ∷ answers)
  refuses : {number : ℕ} {txn : Option Txn} {script : List ℕ} (a : Answer) (rest : List ℕ)
      → Asks repo (stands number txn script) (actions.Send (call_of a)) rest → IsRefused (call_of a) a.repos a.reply a.closes
      → IsAnswered repo number txn script Refused (a ∷ [])

-- Over what a session writes for the answers to a script, whatever follows it, a run sends the calls in order and prints what belongs to each answer.
abbrev pub AnswersArePrinted : Type 0
AnswersArePrinted = (repo host script : List ℕ) (end : ClientEnd) (answers : List Answer) (more : List ℕ) → IsAnswered repo 0 None script end answers
    → IsRun repo host script (flat_map answer_bytes answers ++ more) end (flat_map (λ a. request_bytes (call_of a) host) answers) (flat_map answer_text answers)
