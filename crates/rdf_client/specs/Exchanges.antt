-- The request of a call, and what its response is.
use Rattle.std.specs.Prelude.{◌≡◌, ◌⊎◌, ℕ, Bool, ◌&&◌, nat_le, List, [], Option, Result, Ok, Err}
use Rattle.http_frame.specs.Messages.{SeenResponse}
use Rattle.http_frame.specs.RequestWire.{request_wire}
use Rattle.http_frame.specs.Responses.{IsResponseFrame, no_response, response, response_refusal}
use Rattle.http_frame.specs.Streams.{IsStream}
use Rattle.http_frame.specs.declared.fault.FrameFault.{FrameFault}
use Rattle.journal.specs.declared.reply.Reply.{Reply}
use Rattle.journal.specs.declared.reply.Reply.TheVariants as replies
use Rattle.api_calls.specs.declared.call.Call.{Call}
use Rattle.api_requests.specs.Requests.{request_of}
use Rattle.api_requests.specs.Spellable.{IsNamed}
use Rattle.reply_reading.specs.declared.got.Got.{Got}
use Rattle.reply_reading.specs.declared.got.Got.TheVariants as gots
use Rattle.reply_reading.specs.Readings.{IsGot, IsBadReply}
use Rattle.rdf_io.specs.Sending.{IsPartOf}
use Rattle.rdf_client.specs.declared.end.ClientEnd.{ClientEnd}
use Rattle.rdf_client.specs.declared.end.ClientEnd.TheVariants.{Done, Refused, ReadFault, WriteFault, BadReply, Memory, Script}

-- a character from `!` to `~`, of which a host is made
abbrev pub is_host_char : ℕ → Bool
is_host_char c = nat_le 33 c && nat_le c 126

-- the bytes of the one request of a call
abbrev pub request_bytes : Call → List ℕ → List ℕ
request_bytes call host = request_wire (request_of call host)

-- what is got by the call from the response at the front of b, behind which rest stands
pub record IsAnswer (call : Call) (b : List ℕ) (got : Got) (rest : List ℕ) : Type 0 where
  pub seen : SeenResponse
  pub frame : IsResponseFrame b (response seen rest)
  pub got_is : IsGot call seen got

-- at the front of b stands no response that has a reply to the call: b has ended, is refused by its frame, or the response is refused by its body
-- or its fields
pub data HasNoReply (call : Call) (b : List ℕ) : Type 0 where
  ended : IsResponseFrame b no_response → HasNoReply call b
  bad_frame : (fault : FrameFault) → IsResponseFrame b (response_refusal fault) → HasNoReply call b
  bad_reply : (seen : SeenResponse) (rest : List ℕ) (n : ℕ) → IsResponseFrame b (response seen rest) → IsBadReply call seen n → HasNoReply call b

-- the answer of an exchange over the responses b, and what is held and left of them after it; a fault and want of memory say nothing of them
abbrev pub Exchanged : Call → List ℕ → List ℕ → Option (List ℕ) → Result Got ClientEnd → Type 0
Exchanged call b held left (Ok got) = (rest : List ℕ) × IsAnswer call b got rest × IsStream held left rest
Exchanged call b held left (Err BadReply) = HasNoReply call b
Exchanged call b held left (Err ReadFault) = Unit {0}
Exchanged call b held left (Err WriteFault) = Unit {0}
Exchanged call b held left (Err Memory) = Unit {0}
Exchanged call b held left (Err Done) = ⊥
Exchanged call b held left (Err Refused) = ⊥
Exchanged call b held left (Err (Script n)) = ⊥

-- what was sent of the request: all of it before anything is read; without memory perhaps nothing, and at a fault of the sink a first part
abbrev pub IsSent : List ℕ → Result Got ClientEnd → List ℕ → Type 0
IsSent request (Ok got) sent = sent ≡ request
IsSent request (Err BadReply) sent = sent ≡ request
IsSent request (Err ReadFault) sent = sent ≡ request
IsSent request (Err WriteFault) sent = IsPartOf sent request
IsSent request (Err Memory) sent = (sent ≡ []) ⊎ (sent ≡ request)
IsSent request (Err Done) sent = ⊥
IsSent request (Err Refused) sent = ⊥
IsSent request (Err (Script n)) sent = ⊥

-- a transaction that was got has a place that names have
abbrev pub IsNamedReply : Reply → Type 0
IsNamedReply (replies.Begun t) = IsNamed t
IsNamedReply reply = Unit {0}

abbrev pub IsNamedGot : Got → Type 0
IsNamedGot (gots.Reply reply) = IsNamedReply reply
IsNamedGot (gots.Refused status body) = Unit {0}
