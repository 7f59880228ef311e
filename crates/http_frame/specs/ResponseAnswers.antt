-- The answers of a reader of responses. A fault of the source says which bytes were taken, and want of memory says nothing.
use Rattle.std.specs.Prelude.{◌≡◌, ◌⊎◌, ℕ, ◌≤◌, ◌<◌, false, List, [], length, Some, None, Result, Ok, Err, Option}
use Rattle.http_frame.specs.Answers.{IsTaken}
use Rattle.http_frame.specs.Faults.{IsShown}
use Rattle.http_frame.specs.Limits.{most_informational}
use Rattle.http_frame.specs.Messages.{SeenResponse}
use Rattle.http_frame.specs.Responses.{is_informational, response_framing, IsResponseBody, IsResponseBodyRefused, IsResponseBodyOpen, PassesOver, no_response, response, response_refusal, IsResponseFrame}
use Rattle.http_frame.specs.StatusHeads.{HasNoStatusHead, BeginsWithStatus}
use Rattle.http_frame.specs.Streams.{IsStream}
use Rattle.http_frame.specs.declared.fault.FrameFault.{FrameFault}
use Rattle.http_frame.specs.declared.fault.FrameFault.TheVariants.{BadHead, BadHost, BadBody, Coding, BodyTooLong, Truncated, ReadFault, Memory}
use Rattle.http_frame.specs.declared.message.StatusHead.{StatusHead}
use Rattle.http_frame.specs.declared.response_framing.ResponseFraming.{ResponseFraming}

-- the answer on the head at the front of b, and what is held and left after it
abbrev pub NextStatus : List ℕ → List ℕ → Option (List ℕ) → Result (Option StatusHead) FrameFault → Type 0
NextStatus b held left (Ok None) = (b ≡ []) × IsStream held left []
NextStatus b held left (Ok (Some head)) = (rest : List ℕ) × BeginsWithStatus b head rest × IsStream held left rest
-- what was taken is held, and has no head
NextStatus b held left (Err ReadFault) = IsStream held left b × HasNoStatusHead held
NextStatus b held left (Err Memory) = Unit {0}
NextStatus b held left (Err BadHead) = (0 < length b) × HasNoStatusHead b
NextStatus b held left (Err BadHost) = ⊥
NextStatus b held left (Err BadBody) = ⊥
NextStatus b held left (Err Coding) = ⊥
NextStatus b held left (Err BodyTooLong) = ⊥
NextStatus b held left (Err Truncated) = ⊥

-- the answer on a body that is all of b, where it may have this many bytes, and what is held and left after it
abbrev pub TakesToEnd : ℕ → List ℕ → List ℕ → Option (List ℕ) → Result (List ℕ) FrameFault → Type 0
TakesToEnd most b held left (Ok body) = (body ≡ b) × (length body ≤ most) × IsStream held left []
TakesToEnd most b held left (Err ReadFault) = (taken : List ℕ) × IsTaken taken b left × (length taken ≤ most)
TakesToEnd most b held left (Err Memory) = Unit {0}
TakesToEnd most b held left (Err BodyTooLong) = most < length b
TakesToEnd most b held left (Err BadHead) = ⊥
TakesToEnd most b held left (Err BadHost) = ⊥
TakesToEnd most b held left (Err BadBody) = ⊥
TakesToEnd most b held left (Err Coding) = ⊥
TakesToEnd most b held left (Err Truncated) = ⊥

-- the answer on a body that is so framed and stands at the front of b, and what is held and left after it
abbrev pub TakesResponseBody : ResponseFraming → List ℕ → List ℕ → Option (List ℕ) → Result (List ℕ) FrameFault → Type 0
TakesResponseBody framed_as b held left (Ok body) = (rest : List ℕ) × IsResponseBody framed_as b body rest × IsStream held left rest
-- what was taken ends inside the body
TakesResponseBody framed_as b held left (Err ReadFault) = (taken : List ℕ) × IsTaken taken b left × IsResponseBodyOpen framed_as taken
TakesResponseBody framed_as b held left (Err Memory) = Unit {0}
TakesResponseBody framed_as b held left (Err fault) = IsResponseBodyRefused framed_as b fault

-- the answer on the response of this head, where b follows the head, and what is held and left after it
abbrev pub ResponseBehind : StatusHead → List ℕ → List ℕ → Option (List ℕ) → Result SeenResponse FrameFault → Type 0
ResponseBehind head b held left (Ok r) = (r.status ≡ head.status) × (r.fields ≡ head.fields)
    × (framed_as : ResponseFraming) × (response_framing head ≡ Ok framed_as) × TakesResponseBody framed_as b held left (Ok r.body)
ResponseBehind head b held left (Err fault) =
    ((response_framing head ≡ Err fault) × IsShown fault)
    ⊎ ((framed_as : ResponseFraming) × (response_framing head ≡ Ok framed_as) × TakesResponseBody framed_as b held left (Err fault))

-- these bytes stand behind at most 16 informational responses at the front of b
pub record StandsBehind (b mid : List ℕ) : Type 0 where
  pub passed : ℕ
  pub few : passed ≤ most_informational
  pub passes : PassesOver passed b mid

-- the answer on the first head of the stream b that is no informational one, and what is held and left after it
abbrev pub NextFinal : List ℕ → List ℕ → Option (List ℕ) → Result (Option StatusHead) FrameFault → Type 0
NextFinal b held left (Ok None) = IsResponseFrame b no_response × IsStream held left []
NextFinal b held left (Ok (Some head)) = (mid : List ℕ) × StandsBehind b mid × (is_informational head.status ≡ false)
    × (rest : List ℕ) × BeginsWithStatus mid head rest × IsStream held left rest
-- what was taken of the bytes behind informational responses is held, and has no head
NextFinal b held left (Err ReadFault) = (mid : List ℕ) × StandsBehind b mid × IsStream held left mid × HasNoStatusHead held
NextFinal b held left (Err Memory) = Unit {0}
NextFinal b held left (Err fault) = IsResponseFrame b (response_refusal fault)

-- these bytes end before a response does: behind informational ones they have no head, or end inside the body behind it
pub record IsResponseCutOff (taken : List ℕ) : Type 0 where
  pub mid : List ℕ
  pub behind : StandsBehind taken mid
  pub inside : HasNoStatusHead mid
      ⊎ ((head : StatusHead) × (after : List ℕ) × (framed_as : ResponseFraming) × BeginsWithStatus mid head after
      × (response_framing head ≡ Ok framed_as) × IsResponseBodyOpen framed_as after)

-- the answer on the response of the stream b, and what is held and left after it
abbrev pub NextResponse : List ℕ → List ℕ → Option (List ℕ) → Result (Option SeenResponse) FrameFault → Type 0
NextResponse b held left (Ok None) = IsResponseFrame b no_response × IsStream held left []
NextResponse b held left (Ok (Some r)) = (rest : List ℕ) × IsResponseFrame b (response r rest) × IsStream held left rest
NextResponse b held left (Err ReadFault) = (taken : List ℕ) × IsTaken taken b left × IsResponseCutOff taken
NextResponse b held left (Err Memory) = Unit {0}
NextResponse b held left (Err fault) = IsResponseFrame b (response_refusal fault)
