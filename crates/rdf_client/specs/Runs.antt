-- A run of a script: which requests it sends, what it prints and how it ends.
use Rattle.std.specs.Prelude.{◌≡◌, ◌⊎◌, ℕ, ◌+◌, List, [], ◌++◌, Option, None}
use Rattle.journal.specs.declared.txn.Txn.{Txn}
use Rattle.journal.specs.declared.op.Op.{Op}
use Rattle.journal.specs.declared.reply.Reply.{Reply}
use Rattle.api_calls.specs.declared.call.Call.{Call}
use Rattle.api_calls.specs.declared.call.Call.TheVariants as calls
use Rattle.reply_reading.specs.declared.got.Got.{Got}
use Rattle.reply_reading.specs.declared.got.Got.TheVariants as gots
use Rattle.rdf_term.specs.Buffer.{Buffer}
use Rattle.client_script.specs.declared.action.Action.{Action}
use Rattle.client_script.specs.declared.action.Action.TheVariants as actions
use Rattle.client_script.specs.declared.command.Command.{Command}
use Rattle.client_script.specs.Actions.{next_call, txn_after}
use Rattle.client_script.specs.Printed.{bad_line, printed, refused_line}
use Rattle.client_script.specs.Scripts.{IsBad, IsNext}
use Rattle.rdf_client.specs.Exchanges.{HasNoReply, IsAnswer, request_bytes}
use Rattle.rdf_io.specs.Sending.{IsPartOf}
use Rattle.rdf_client.specs.declared.end.ClientEnd.{ClientEnd}
use Rattle.rdf_client.specs.declared.end.ClientEnd.TheVariants.{Done, Refused, ReadFault, WriteFault, BadReply, Memory, Script}

-- where a run stands: how many lines were read, the current transaction, the script from there on, and the responses from there on
pub record Place : Type 0 where
  pub number : ℕ
  pub txn : Option Txn
  pub script : List ℕ
  pub responses : List ℕ

-- the next line, behind which rest stands, asks for this action on the repository
pub record Asks (repo : List ℕ) (at : Place) (action : Action) (rest : List ℕ) : Type 0 where
  pub command : Command
  pub line : IsNext at.number at.script command rest
  pub action_is : next_call repo at.txn command ≡ action

-- the script has ended: it has no more lines, or the next one is `quit`
abbrev pub HasEnded : List ℕ → Place → Type 0
HasEnded repo at = (at.script ≡ []) ⊎ ((rest : List ℕ) × Asks repo at actions.End rest)

-- the next line is none of a script, or may not stand there
abbrev pub IsBadLine : List ℕ → Place → Type 0
IsBadLine repo at = IsBad at.number at.script ⊎ ((rest : List ℕ) × Asks repo at actions.Refuse rest)

-- the next line sends this call
abbrev pub Sends : List ℕ → Place → Call → Type 0
Sends repo at call = (rest : List ℕ) × Asks repo at (actions.Send call) rest

-- what is printed for what was got by an op
abbrev pub got_text : Op → Got → List ℕ
got_text op (gots.Reply reply) = printed op reply
got_text op (gots.Refused status body) = refused_line status body.items

-- what is printed for what was got by a call; a script sends calls on its repository alone
abbrev pub shown : Call → Got → List ℕ
shown calls.Protocol got = []
shown (calls.Repositories form) got = []
shown (calls.On repo op form) got = got_text op got

-- the current transaction after a reply to a call
abbrev pub txn_behind : Option Txn → Call → Reply → Option Txn
txn_behind txn calls.Protocol reply = txn
txn_behind txn (calls.Repositories form) reply = txn
txn_behind txn (calls.On repo op form) reply = txn_after txn op reply

-- The run ends at the next line, for which this is sent and printed.
abbrev pub Ends : (repo host : List ℕ) → Place → ClientEnd → (sent text : List ℕ) → Type 0
Ends repo host at Done sent text = (sent ≡ []) × (text ≡ []) × HasEnded repo at
Ends repo host at (Script n) sent text = (sent ≡ []) × (n ≡ at.number + 1) × (text ≡ bad_line n) × IsBadLine repo at
-- a request was refused
Ends repo host at Refused sent text =
    (call : Call) × (status : ℕ) × (body : Buffer) × (rest : List ℕ) × Sends repo at call × (sent ≡ request_bytes call host)
    × IsAnswer call at.responses (gots.Refused status body) rest × (text ≡ shown call (gots.Refused status body))
-- a response has no reply
Ends repo host at BadReply sent text = (call : Call) × Sends repo at call × (sent ≡ request_bytes call host) × (text ≡ []) × HasNoReply call at.responses
-- the input failed, or the source did behind a request
Ends repo host at ReadFault sent text = (text ≡ []) × ((sent ≡ []) ⊎ ((call : Call) × Sends repo at call × (sent ≡ request_bytes call host)))
-- the sink failed in a request; or the output did in what is printed for an answer or for a bad line
Ends repo host at WriteFault sent text =
    ((call : Call) × Sends repo at call × IsPartOf sent (request_bytes call host) × (text ≡ []))
    ⊎ (((call : Call) × (got : Got) × (rest : List ℕ) × Sends repo at call × (sent ≡ request_bytes call host)
    × IsAnswer call at.responses got rest × IsPartOf text (shown call got))
    ⊎ ((sent ≡ []) × IsBadLine repo at × IsPartOf text (bad_line (at.number + 1))))
-- memory was wanted: before a request, or behind it
Ends repo host at Memory sent text = (text ≡ []) × ((sent ≡ []) ⊎ ((call : Call) × Sends repo at call × (sent ≡ request_bytes call host)))

-- A run from a place on: the requests of its calls in order, each sent after the answer to the one before, and what is printed for the answers.
pub data Runs (repo host : List ℕ) : Place → ClientEnd → List ℕ → List ℕ → Type 0 where
  -- it ends at the next line
  stops : {at : Place} {end : ClientEnd} {sent text : List ℕ} → Ends repo host at end sent text → Runs repo host at end sent text
  -- the next line does nothing
  skips : {at : Place} {end : ClientEnd} {sent text : List ℕ} (rest : List ℕ) → Asks repo at actions.Skip rest
      → Runs repo host (record at { number = at.number + 1; script = rest }) end sent text → Runs repo host at end sent text
  -- the next line sends a call and has its reply
  answers : {at : Place} {end : ClientEnd} {sent text : List ℕ} (call : Call) (reply : Reply) (rest later sent' text' : List ℕ)
      → Asks repo at (actions.Send call) rest → IsAnswer call at.responses (gots.Reply reply) later
      → Runs repo host (record { number = at.number + 1; txn = txn_behind at.txn call reply; script = rest; responses = later }) end sent' text'
      → sent ≡ request_bytes call host ++ sent' → text ≡ shown call (gots.Reply reply) ++ text' → Runs repo host at end sent text

-- where a run begins
abbrev pub start : List ℕ → List ℕ → Place
start script responses = record { number = 0; txn = None; script = script; responses = responses }

-- the run of a script over the responses of a server: how it ended, the bytes that were sent and those that were printed
abbrev pub IsRun : (repo host script responses : List ℕ) → ClientEnd → (sent text : List ℕ) → Type 0
IsRun repo host script responses end sent text = Runs repo host (start script responses) end sent text
