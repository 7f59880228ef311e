-- What holds of exchanges and of runs.
use Rattle.std.specs.Prelude.{◌≡◌, ℕ, List, Bool, true, false}
use Rattle.api_calls.specs.declared.call.Call.{Call}
use Rattle.reply_reading.specs.declared.got.Got.{Got}
use Rattle.rdf_client.specs.Exchanges.{HasNoReply, IsAnswer}
use Rattle.rdf_client.specs.Runs.{IsRun}
use Rattle.rdf_client.specs.declared.end.ClientEnd.{ClientEnd}
use Rattle.rdf_client.specs.declared.end.ClientEnd.TheVariants.{Done, Refused, ReadFault, WriteFault, BadReply, Memory, Script}

-- a response that has a reply is none without
abbrev pub AnsweredOrNot : Type 0
AnsweredOrNot = (call : Call) (b : List ℕ) (got : Got) (rest : List ℕ) → IsAnswer call b got rest → HasNoReply call b → ⊥

-- no fault and no want of memory ended the run
abbrev pub is_own_end : ClientEnd → Bool
is_own_end Done = true
is_own_end Refused = true
is_own_end ReadFault = false
is_own_end WriteFault = false
is_own_end BadReply = true
is_own_end Memory = false
is_own_end (Script n) = true

-- Over a script and the responses there is one run that no fault and no want of memory ends: so an end comes exactly where it is that run's.
abbrev pub OneRun : Type 0
OneRun = (repo host script responses : List ℕ) (end other : ClientEnd) (sent text sent' text' : List ℕ)
    → IsRun repo host script responses end sent text → IsRun repo host script responses other sent' text'
    → is_own_end end ≡ true → is_own_end other ≡ true → (end ≡ other) × (sent ≡ sent') × (text ≡ text')
