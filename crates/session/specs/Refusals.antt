-- What is written where a session ends at a frame.
use Rattle.std.specs.Prelude.{◌≡◌, ◌⊎◌, ℕ, true, false, List, [], ◌++◌, Option, Ok, codes}
use Rattle.http_frame.specs.Answers.{IsTaken}
use Rattle.http_frame.specs.Bodies.{IsBodyRefused}
use Rattle.http_frame.specs.Frames.{BeginsWithHead, IsHeadRefused, IsRefused}
use Rattle.http_frame.specs.Framing.{framing}
use Rattle.http_frame.specs.Heads.{HasNoHead}
use Rattle.http_frame.specs.Messages.{SeenResponse}
use Rattle.http_frame.specs.Wire.{wire, continue_of}
use Rattle.http_frame.specs.declared.fault.FrameFault.{FrameFault}
use Rattle.http_frame.specs.declared.fault.FrameFault.TheVariants.{BadHead, BadHost, BadBody, BodyTooLong, Coding, Truncated, ReadFault, Memory}
use Rattle.http_frame.specs.declared.framing.Framing.{Framing}
use Rattle.http_frame.specs.declared.message.Head.{Head}
use Rattle.api_replies.specs.Parts.{refused, no_memory}

-- the status of the response to a frame that is refused (RFC 9112, section 2.2 and RFC 9110, section 15)
abbrev pub frame_status : FrameFault → ℕ
frame_status BadHead = 400
frame_status BadHost = 400
frame_status BadBody = 400
frame_status BodyTooLong = 413
frame_status Coding = 501
frame_status Truncated = 400
frame_status ReadFault = 400
frame_status Memory = 503

-- and its text
abbrev pub frame_cause : FrameFault → List ℕ
frame_cause BadHead = codes "bad head"
frame_cause BadHost = codes "bad host"
frame_cause BadBody = codes "bad body"
frame_cause BodyTooLong = codes "body too long"
frame_cause Coding = codes "unsupported transfer coding"
frame_cause Truncated = codes "truncated body"
frame_cause ReadFault = []
frame_cause Memory = codes "out of memory"

abbrev pub frame_refusal : FrameFault → SeenResponse
frame_refusal fault = refused (frame_status fault) (frame_cause fault)

-- its bytes; the connection ends after it
unfoldable pub refusal_text : FrameFault → List ℕ
refusal_text fault = wire (frame_refusal fault) 1 true false

-- the last words of a session that found no memory
unfoldable pub gone_text : List ℕ
gone_text = wire no_memory 1 true false

-- what is written before the body of the frame at the front of b is read
pub data Asks (b text : List ℕ) : Type 0 where
  -- a head without a fault stands there
  asked : (head : Head) (after : List ℕ) (framed_as : Framing) → BeginsWithHead b head after → framing head ≡ Ok framed_as
      → text ≡ continue_of head → Asks b text
  -- no such head does
  unasked : (fault : FrameFault) → IsHeadRefused b fault → text ≡ [] → Asks b text

-- the frame at the front of b is refused with these bytes: `100 Continue` where it is due, and the refusal
abbrev pub IsRefusal : List ℕ → List ℕ → Type 0
IsRefusal b text = (fault : FrameFault) × IsRefused b fault × (before : List ℕ) × Asks b before × (text ≡ before ++ refusal_text fault)

-- perhaps `100 Continue`, where it is due
abbrev pub MayAsk : List ℕ → List ℕ → Type 0
MayAsk b text = (text ≡ []) ⊎ Asks b text

-- memory was wanted: perhaps `100 Continue`, and the last words
abbrev pub IsGone : List ℕ → List ℕ → Type 0
IsGone b text = (before : List ℕ) × MayAsk b before × (text ≡ before ++ gone_text)

-- The source failed, of which these bytes are left: `100 Continue` went out exactly where the bytes of b that were taken have a head that asks for it.
pub data IsCutOff (b : List ℕ) (left : Option (List ℕ)) (text : List ℕ) : Type 0 where
  -- they have no head
  in_head : (taken : List ℕ) → IsTaken taken b left → HasNoHead taken → text ≡ [] → IsCutOff b left text
  -- they end inside the body behind a head without a fault
  in_body : (taken : List ℕ) (head : Head) (after : List ℕ) (framed_as : Framing) → IsTaken taken b left → BeginsWithHead taken head after
      → framing head ≡ Ok framed_as → IsBodyRefused framed_as after Truncated → text ≡ continue_of head → IsCutOff b left text
