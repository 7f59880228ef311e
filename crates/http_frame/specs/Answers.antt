-- The answers of a reader of frames. A fault of the source says which bytes were taken, and want of memory says nothing.
use Rattle.std.specs.Prelude.{◌≡◌, ◌⊎◌, ℕ, List, [], ◌++◌, Some, None, Result, Ok, Err, Option}
use Rattle.http_frame.specs.Bodies.{IsBodyWithin, IsRefusedWithin, IsBodyRefused}
use Rattle.http_frame.specs.Frames.{BeginsWithHead, IsHeadRefused, IsFrame, nothing, request, refusal}
use Rattle.http_frame.specs.Framing.{framing}
use Rattle.http_frame.specs.Heads.{HasNoHead}
use Rattle.http_frame.specs.Limits.{most_body}
use Rattle.http_frame.specs.Messages.{SeenRequest}
use Rattle.http_frame.specs.Streams.{IsStream}
use Rattle.http_frame.specs.declared.fault.FrameFault.{FrameFault}
use Rattle.http_frame.specs.declared.fault.FrameFault.TheVariants.{Truncated, ReadFault, Memory}
use Rattle.http_frame.specs.declared.framing.Framing.{Framing}
use Rattle.http_frame.specs.declared.message.Head.{Head}

-- the answer on the next head of the stream b, and what is held and left after it
abbrev pub NextHead : List ℕ → List ℕ → Option (List ℕ) → Result (Option Head) FrameFault → Type 0
NextHead b held left (Ok None) = (b ≡ []) × IsStream held left []
NextHead b held left (Ok (Some head)) =
    (rest : List ℕ) × BeginsWithHead b head rest × (framed_as : Framing) × (framing head ≡ Ok framed_as) × IsStream held left rest
-- what was taken is held, and has no head
NextHead b held left (Err ReadFault) = IsStream held left b × HasNoHead held
NextHead b held left (Err Memory) = Unit {0}
NextHead b held left (Err fault) = IsHeadRefused b fault

-- b is these bytes, which were taken, and then those that the source has left
abbrev pub IsTaken : List ℕ → List ℕ → Option (List ℕ) → Type 0
IsTaken taken b left = (rest : List ℕ) × (left ≡ Some rest) × (b ≡ taken ++ rest)

-- the answer on a body of no more than the most bytes that is so framed and stands at the front of b, and what is held and left after it
abbrev pub TakesWithin : ℕ → Framing → List ℕ → List ℕ → Option (List ℕ) → Result (List ℕ) FrameFault → Type 0
TakesWithin most framed_as b held left (Ok body) = (rest : List ℕ) × IsBodyWithin most framed_as b body rest × IsStream held left rest
-- what was taken ends inside the body
TakesWithin most framed_as b held left (Err ReadFault) = (taken : List ℕ) × IsTaken taken b left × IsRefusedWithin most framed_as taken Truncated
TakesWithin most framed_as b held left (Err Memory) = Unit {0}
TakesWithin most framed_as b held left (Err fault) = IsRefusedWithin most framed_as b fault

-- the same of the body of a request
abbrev pub TakesBody : Framing → List ℕ → List ℕ → Option (List ℕ) → Result (List ℕ) FrameFault → Type 0
TakesBody framed_as b held left answer = TakesWithin most_body framed_as b held left answer

-- the answer on the request of this head, where the stream b follows the head; a head that shows a fault is answered it
abbrev pub NextBody : Head → List ℕ → List ℕ → Option (List ℕ) → Result SeenRequest FrameFault → Type 0
NextBody head b held left (Ok r) =
    (r.head ≡ head) × (framed_as : Framing) × (framing head ≡ Ok framed_as) × TakesBody framed_as b held left (Ok r.body)
NextBody head b held left (Err fault) =
    (framing head ≡ Err fault) ⊎ ((framed_as : Framing) × (framing head ≡ Ok framed_as) × TakesBody framed_as b held left (Err fault))

-- these bytes end before a frame does: they have no head, or end inside the body behind it
abbrev pub IsCutOff : List ℕ → Type 0
IsCutOff taken = HasNoHead taken
    ⊎ ((head : Head) × (after : List ℕ) × (framed_as : Framing) × BeginsWithHead taken head after × (framing head ≡ Ok framed_as)
    × IsBodyRefused framed_as after Truncated)

-- the answer on the frame of the stream b, and what is held and left after it
abbrev pub NextFrame : List ℕ → List ℕ → Option (List ℕ) → Result (Option SeenRequest) FrameFault → Type 0
NextFrame b held left (Ok None) = IsFrame b nothing × IsStream held left []
NextFrame b held left (Ok (Some r)) = (rest : List ℕ) × IsFrame b (request r rest) × IsStream held left rest
NextFrame b held left (Err ReadFault) = (taken : List ℕ) × IsTaken taken b left × IsCutOff taken
NextFrame b held left (Err Memory) = Unit {0}
NextFrame b held left (Err fault) = IsFrame b (refusal fault)
