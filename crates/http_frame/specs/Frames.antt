-- Frames: what stands at the front of a stream (RFC 9112, sections 2 and 6).
use Rattle.std.specs.Prelude.{◌≡◌, ℕ, ◌<◌, List, [], length, Ok, Err}
use Rattle.httparse.specs.Grammar.{RequestHead}
use Rattle.http_frame.specs.Heads.{IsHeadOf, HasNoHead, Shows}
use Rattle.http_frame.specs.Framing.{framing}
use Rattle.http_frame.specs.Bodies.{IsBody, IsBodyRefused}
use Rattle.http_frame.specs.Messages.{SeenRequest}
use Rattle.http_frame.specs.declared.fault.FrameFault.{FrameFault}
use Rattle.http_frame.specs.declared.fault.FrameFault.TheVariants.{BadHead}
use Rattle.http_frame.specs.declared.framing.Framing.{Framing}
use Rattle.http_frame.specs.declared.message.Head.{Head}

-- the first bytes of b are a head, shown as this one, and after follows
pub record BeginsWithHead (b : List ℕ) (shown : Head) (after : List ℕ) : Type 0 where
  pub head : RequestHead
  pub reads : IsHeadOf b head after
  pub shows : Shows head shown

-- the first bytes of b are this request, a head without a fault and the body that it says, and rest follows
pub record IsRequest (b : List ℕ) (r : SeenRequest) (rest : List ℕ) : Type 0 where
  pub after : List ℕ
  pub begins : BeginsWithHead b r.head after
  pub framed_as : Framing
  pub framed : framing r.head ≡ Ok framed_as
  pub body : IsBody framed_as after r.body rest

-- b is refused by what stands before a body
pub data IsHeadRefused (b : List ℕ) (fault : FrameFault) : Type 0 where
  -- bytes stand there, and no head
  no_head : fault ≡ BadHead → 0 < length b → HasNoHead b → IsHeadRefused b fault
  -- the head shows the fault
  bad_head : (head : Head) (after : List ℕ) → BeginsWithHead b head after → framing head ≡ Err fault → IsHeadRefused b fault

-- the stream b is refused with this fault, by its head or by the body behind a head without a fault
pub data IsRefused (b : List ℕ) (fault : FrameFault) : Type 0 where
  by_head : IsHeadRefused b fault → IsRefused b fault
  by_body : (head : Head) (after : List ℕ) (framed_as : Framing) → BeginsWithHead b head after → framing head ≡ Ok framed_as
      → IsBodyRefused framed_as after fault → IsRefused b fault

-- the frame of a stream: nothing, a request and what follows it, or a refusal
pub data Frame : Type 0 where
  nothing : Frame
  request : SeenRequest → List ℕ → Frame
  refusal : FrameFault → Frame

-- the stream b has this frame
abbrev pub IsFrame : List ℕ → Frame → Type 0
IsFrame b nothing = b ≡ []
IsFrame b (request r rest) = IsRequest b r rest
IsFrame b (refusal fault) = IsRefused b fault
