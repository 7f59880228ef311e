-- The steps of an exchange and of a script. No contract of a public call cites it.
use Rattle.std.specs.Prelude.{◌≡◌, ◌⊎◌, ℕ, ◌+◌, List, [], Option, Result, Ok, Err}
use Rattle.http_frame.specs.Messages.{SeenResponse}
use Rattle.api_calls.specs.declared.call.Call.{Call}
use Rattle.journal.specs.declared.txn.Txn.{Txn}
use Rattle.reply_reading.specs.declared.got.Got.{Got}
use Rattle.reply_reading.specs.declared.got.Got.TheVariants as gots
use Rattle.reply_reading.specs.Readings.{IsGot, IsBadReply}
use Rattle.rdf_term.specs.Buffer.{Buffer}
use Rattle.journal.specs.declared.reply.Reply.{Reply}
use Rattle.http_frame.specs.Streams.{IsStream as IsFrameStream}
use Rattle.client_script.specs.declared.action.Action.TheVariants as actions
use Rattle.client_script.specs.Inputs.{IsStream}
use Rattle.client_script.specs.Printed.{bad_line}
use Rattle.client_script.specs.Scripts.{Reader}
use Rattle.rdf_client.specs.Exchanges.{HasNoReply, IsAnswer, request_bytes}
use Rattle.rdf_client.specs.Runs.{Asks as AsksFor, Ends, Place, shown, txn_behind}
use Rattle.rdf_io.specs.Sending.{IsPartOf}
use Rattle.rdf_client.specs.declared.end.ClientEnd.{ClientEnd}
use Rattle.rdf_client.specs.declared.end.ClientEnd.TheVariants.{Done, Refused, ReadFault, WriteFault, BadReply, Memory, Script}

-- what was sent of a request before anything is read
abbrev pub Asks : List ℕ → Result (Unit {0}) ClientEnd → List ℕ → Type 0
Asks request (Ok x) sent = sent ≡ request
Asks request (Err WriteFault) sent = IsPartOf sent request
Asks request (Err Memory) sent = sent ≡ []
Asks request (Err ReadFault) sent = ⊥
Asks request (Err BadReply) sent = ⊥
Asks request (Err Done) sent = ⊥
Asks request (Err Refused) sent = ⊥
Asks request (Err (Script n)) sent = ⊥

-- what a response is to a call
abbrev pub IsGotOf : Call → SeenResponse → Result Got ClientEnd → Type 0
IsGotOf call r (Ok got) = IsGot call r got
IsGotOf call r (Err BadReply) = (n : ℕ) × IsBadReply call r n
IsGotOf call r (Err Memory) = Unit {0}
IsGotOf call r (Err ReadFault) = ⊥
IsGotOf call r (Err WriteFault) = ⊥
IsGotOf call r (Err Done) = ⊥
IsGotOf call r (Err Refused) = ⊥
IsGotOf call r (Err (Script n)) = ⊥

-- the ends that reading a response can have
abbrev pub IsHeard : Result Got ClientEnd → Type 0
IsHeard (Ok got) = Unit {0}
IsHeard (Err BadReply) = Unit {0}
IsHeard (Err Memory) = Unit {0}
IsHeard (Err ReadFault) = Unit {0}
IsHeard (Err WriteFault) = ⊥
IsHeard (Err Done) = ⊥
IsHeard (Err Refused) = ⊥
IsHeard (Err (Script n)) = ⊥

-- what was printed of a text
abbrev pub Prints : List ℕ → Result (Unit {0}) ClientEnd → List ℕ → Type 0
Prints text (Ok x) part = part ≡ text
Prints text (Err WriteFault) part = IsPartOf part text
Prints text (Err Memory) part = part ≡ []
Prints text (Err ReadFault) part = ⊥
Prints text (Err BadReply) part = ⊥
Prints text (Err Done) part = ⊥
Prints text (Err Refused) part = ⊥
Prints text (Err (Script n)) part = ⊥

-- what was printed for a line of this number that is none of a script, and the end
abbrev pub PrintsBadLine : ℕ → ClientEnd → List ℕ → Type 0
PrintsBadLine number (Script n) part = (n ≡ number) × (part ≡ bad_line number)
PrintsBadLine number WriteFault part = IsPartOf part (bad_line number)
PrintsBadLine number Memory part = part ≡ []
PrintsBadLine number ReadFault part = ⊥
PrintsBadLine number BadReply part = ⊥
PrintsBadLine number Done part = ⊥
PrintsBadLine number Refused part = ⊥

-- the transaction that is current behind what was got, or the end at a refusal
abbrev pub txn_or_end : Option Txn → Call → Got → Result (Option Txn) ClientEnd
txn_or_end txn call (gots.Reply reply) = Ok (txn_behind txn call reply)
txn_or_end txn call (gots.Refused status body) = Err Refused

-- a call was sent, answered and shown, over the responses b; what is held and left of them after it
abbrev pub Answers : (host : List ℕ) → Call → Option Txn → (b held : List ℕ) → (left : Option (List ℕ)) → Result (Option Txn) ClientEnd → (sent text : List ℕ) → Type 0
Answers host call txn b held left (Ok txn') sent text =
    (reply : Reply) × (later : List ℕ) × IsAnswer call b (gots.Reply reply) later × (txn' ≡ txn_behind txn call reply)
    × (sent ≡ request_bytes call host) × (text ≡ shown call (gots.Reply reply)) × IsFrameStream held left later
Answers host call txn b held left (Err Refused) sent text =
    (status : ℕ) × (body : Buffer) × (rest : List ℕ) × (sent ≡ request_bytes call host) × IsAnswer call b (gots.Refused status body) rest
    × (text ≡ shown call (gots.Refused status body))
Answers host call txn b held left (Err BadReply) sent text = (sent ≡ request_bytes call host) × (text ≡ []) × HasNoReply call b
Answers host call txn b held left (Err ReadFault) sent text = (text ≡ []) × (sent ≡ request_bytes call host)
Answers host call txn b held left (Err WriteFault) sent text =
    (IsPartOf sent (request_bytes call host) × (text ≡ []))
    ⊎ ((got : Got) × (rest : List ℕ) × (sent ≡ request_bytes call host) × IsAnswer call b got rest × IsPartOf text (shown call got))
Answers host call txn b held left (Err Memory) sent text = (text ≡ []) × ((sent ≡ []) ⊎ (sent ≡ request_bytes call host))
Answers host call txn b held left (Err Done) sent text = ⊥
Answers host call txn b held left (Err (Script n)) sent text = ⊥

-- the line at a place, behind which rest stands, does nothing, or sends a call that has its reply; later are the responses behind that
abbrev pub IsMove : (repo host : List ℕ) → Place → (rest later : List ℕ) → Option Txn → (sent text : List ℕ) → Type 0
IsMove repo host at rest later txn sent text =
    (AsksFor repo at actions.Skip rest × (later ≡ at.responses) × (txn ≡ at.txn) × (sent ≡ []) × (text ≡ []))
    ⊎ ((call : Call) × (reply : Reply) × AsksFor repo at (actions.Send call) rest × IsAnswer call at.responses (gots.Reply reply) later
    × (txn ≡ txn_behind at.txn call reply) × (sent ≡ request_bytes call host) × (text ≡ shown call (gots.Reply reply)))

-- a command, which is the next line of a place, was done
abbrev pub Acts : (repo host : List ℕ) → Place → (rest held : List ℕ) → (left : Option (List ℕ)) → Result (Option Txn) ClientEnd → (sent text : List ℕ) → Type 0
Acts repo host at rest held left (Ok txn) sent text = (later : List ℕ) × IsMove repo host at rest later txn sent text × IsFrameStream held left later
Acts repo host at rest held left (Err end) sent text = Ends repo host at end sent text

-- the next line of a place was read and done: the reader and the input, and what is held and left of the responses, after it
abbrev pub Turns : (repo host : List ℕ) → Place → Reader → Option (List ℕ) → (held : List ℕ) → (left : Option (List ℕ)) → Result (Option Txn) ClientEnd
    → (sent text : List ℕ) → Type 0
Turns repo host at reader input held left (Ok txn) sent text =
    (rest : List ℕ) × (later : List ℕ) × IsMove repo host at rest later txn sent text × (reader.number ≡ at.number + 1) × IsStream reader.held input rest
    × IsFrameStream held left later
Turns repo host at reader input held left (Err end) sent text = Ends repo host at end sent text
