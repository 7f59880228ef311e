-- What is got of the answer of a reader of responses.
use Rattle.std.proofs.Common.{◌≡◌, ℕ, List, Option, Some, None, Result, Ok, Err, refl, subst}
use Rattle.http_frame.specs.Messages.{SeenResponse}
use Rattle.http_frame.specs.ResponseAnswers.{NextResponse}
use Rattle.http_frame.specs.declared.fault.FrameFault.{FrameFault}
use Rattle.http_frame.specs.declared.fault.FrameFault.TheVariants as faults
use Rattle.api_calls.specs.declared.call.Call.{Call}
use Rattle.reply_reading.specs.declared.got.Got.{Got}
use Rattle.rdf_client.specs.Exchanges.{Exchanged, HasNoReply, bad_frame, bad_reply, ended}
use Rattle.rdf_client.specs.Turning.{IsGotOf}
use Rattle.rdf_client.specs.declared.end.ClientEnd.{ClientEnd}
use Rattle.rdf_client.specs.declared.end.ClientEnd.TheVariants.{Done, Refused, ReadFault, WriteFault, BadReply, Memory, Script}

told_response : (call : Call) (b held : List ℕ) (left : Option (List ℕ)) (r : SeenResponse) (result : Result Got ClientEnd)
    → NextResponse b held left (Ok (Some r)) → IsGotOf call r result → Exchanged call b held left result
told_response call b held left r (Ok got) (rest, frame, stream) g = (rest, record { seen = r; frame = frame; got_is = g }, stream)
told_response call b held left r (Err BadReply) (rest, frame, stream) (n, bad) = bad_reply r rest n frame bad
told_response call b held left r (Err Memory) next g = tt
told_response call b held left r (Err ReadFault) next g = absurd g
told_response call b held left r (Err WriteFault) next g = absurd g
told_response call b held left r (Err Done) next g = absurd g
told_response call b held left r (Err Refused) next g = absurd g
told_response call b held left r (Err (Script n)) next g = absurd g

pub heard_response : (call : Call) (b held : List ℕ) (left : Option (List ℕ)) (told : Option SeenResponse) (r : SeenResponse) (result : Result Got ClientEnd)
    → told ≡ Some r → NextResponse b held left (Ok told) → IsGotOf call r result → Exchanged call b held left result
heard_response call b held left told r result e next g =
    told_response call b held left r result (subst (λ (o : Option SeenResponse). NextResponse b held left (Ok o)) e next) g

pub heard_end : (call : Call) (b held : List ℕ) (left : Option (List ℕ)) (told : Option SeenResponse)
    → told ≡ None → NextResponse b held left (Ok told) → HasNoReply call b
heard_end call b held left None e next = ended next.0
heard_end call b held left (Some r) e next = cc

-- a fault that the frame shows
pub heard_fault : (call : Call) (b held : List ℕ) (left : Option (List ℕ)) (fault : FrameFault)
    → (fault ≡ faults.ReadFault → ⊥) → (fault ≡ faults.Memory → ⊥) → NextResponse b held left (Err fault) → HasNoReply call b
heard_fault call b held left faults.BadHead r m next = bad_frame faults.BadHead next
heard_fault call b held left faults.BadHost r m next = bad_frame faults.BadHost next
heard_fault call b held left faults.BadBody r m next = bad_frame faults.BadBody next
heard_fault call b held left faults.BodyTooLong r m next = bad_frame faults.BodyTooLong next
heard_fault call b held left faults.Coding r m next = bad_frame faults.Coding next
heard_fault call b held left faults.Truncated r m next = bad_frame faults.Truncated next
heard_fault call b held left faults.ReadFault r m next = absurd (r refl)
heard_fault call b held left faults.Memory r m next = absurd (m refl)
