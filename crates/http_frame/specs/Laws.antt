-- A stream has one frame: it is empty, or begins with one request or response, or is refused with one fault. What is written of a
-- request or a response is read as that one.
use Rattle.std.specs.Prelude.{◌≡◌, ℕ, Bool, false, List, [], ◌++◌, codes, Option, Some, None, Result, Ok, Err}
use Rattle.http_frame.specs.Answers.{NextHead, NextBody, NextFrame}
use Rattle.http_frame.specs.Fields.{values_of}
use Rattle.http_frame.specs.Frames.{IsRequest, Frame, request, IsFrame}
use Rattle.http_frame.specs.Messages.{SeenRequest, SeenResponse}
use Rattle.http_frame.specs.RequestWire.{request_wire, IsSpelled, KeepsLimits}
use Rattle.http_frame.specs.Responses.{ResponseFrame, response, IsResponseFrame}
use Rattle.http_frame.specs.Streams.{IsStream}
use Rattle.http_frame.specs.Wire.{wire}
use Rattle.http_frame.specs.WrittenResponses.{read_back, IsReadable}
use Rattle.http_frame.specs.declared.fault.FrameFault.{FrameFault}
use Rattle.http_frame.specs.declared.message.Head.{Head}

-- a stream has one frame
abbrev pub OneFrame : Type 0
OneFrame = (b : List ℕ) (x y : Frame) → IsFrame b x → IsFrame b y → x ≡ y

-- a request stays one, whatever follows
abbrev pub StaysRequest : Type 0
StaysRequest = (b : List ℕ) (r : SeenRequest) (rest more : List ℕ) → IsRequest b r rest → IsRequest (b ++ more) r (rest ++ more)

-- the answer on the request of a head that was given is the answer on the frame
abbrev pub answer_behind : Result SeenRequest FrameFault → Result (Option SeenRequest) FrameFault
answer_behind (Ok r) = Ok (Some r)
answer_behind (Err fault) = Err fault

-- no head: what is answered is the answer on the frame
abbrev pub HeadIsFrame : Type 0
HeadIsFrame = (b held : List ℕ) (left : Option (List ℕ)) →
    (NextHead b held left (Ok None) → NextFrame b held left (Ok None))
    × ((fault : FrameFault) → NextHead b held left (Err fault) → NextFrame b held left (Err fault))

-- a head, and then the request of it: what is answered on the request is the answer on the frame
abbrev pub BodyIsFrame : Type 0
BodyIsFrame = (b held held' : List ℕ) (left left' : Option (List ℕ)) (head : Head) (answer : Result SeenRequest FrameFault)
    → NextHead b held left (Ok (Some head)) → ((mid : List ℕ) → IsStream held left mid → NextBody head mid held' left' answer)
    → NextFrame b held' left' (answer_behind answer)

-- a stream of responses has one frame
abbrev pub OneResponseFrame : Type 0
OneResponseFrame = (b : List ℕ) (x y : ResponseFrame) → IsResponseFrame b x → IsResponseFrame b y → x ≡ y

-- what is written of a request that some bytes spell is read as that request, where it keeps the limits, and nothing is left
abbrev pub WrittenIsFrame : Type 0
WrittenIsFrame = (r : SeenRequest) → IsSpelled r → KeepsLimits r → IsFrame (request_wire r) (request r [])

-- each request that is read is spelled, unless it has a transfer coding
abbrev pub ReadIsSpelled : Type 0
ReadIsSpelled = (b : List ℕ) (r : SeenRequest) (rest : List ℕ) → IsRequest b r rest → values_of (codes "transfer-encoding") r.head.fields ≡ []
    → IsSpelled r

-- what is written of a response is read as that response with the fields of its framing, whatever follows it
abbrev pub WrittenResponseIsFrame : Type 0
WrittenResponseIsFrame = (r : SeenResponse) (minor : ℕ) (closes : Bool) (more : List ℕ) → IsReadable r closes
    → IsResponseFrame (wire r minor closes false ++ more) (response (read_back r closes) more)
