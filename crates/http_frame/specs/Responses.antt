-- Responses: what stands at the front of a stream of them (RFC 9112, sections 4 and 6; RFC 9110, section 15).
use Rattle.std.specs.Prelude.{◌≡◌, ◌⊎◌, ℕ, ◌+◌, ◌≤◌, ◌<◌, ◌==◌, Bool, true, false, ◌&&◌, ◌||◌, List, [], length, Result, Ok, Err, if◌then◌else◌, nat_lt, nat_le, codes}
use Rattle.http_frame.specs.Bodies.{IsBodyWithin, IsRefusedWithin}
use Rattle.http_frame.specs.Fields.{values_of}
use Rattle.http_frame.specs.Framing.{framed_by}
use Rattle.http_frame.specs.Limits.{most_response, most_informational}
use Rattle.http_frame.specs.Messages.{SeenResponse}
use Rattle.http_frame.specs.StatusHeads.{HasNoStatusHead, BeginsWithStatus}
use Rattle.http_frame.specs.declared.fault.FrameFault.{FrameFault}
use Rattle.http_frame.specs.declared.fault.FrameFault.TheVariants.{BadHead, BodyTooLong, Truncated}
use Rattle.http_frame.specs.declared.framing.Framing.{Framing}
use Rattle.http_frame.specs.declared.framing.Framing.TheVariants.{Length}
use Rattle.http_frame.specs.declared.message.StatusHead.{StatusHead}
use Rattle.http_frame.specs.declared.response_framing.ResponseFraming.{ResponseFraming}
use Rattle.http_frame.specs.declared.response_framing.ResponseFraming.TheVariants.{Sized, ToEnd}

-- a status of the class 1xx, behind which another response follows (RFC 9110, section 15.2)
abbrev pub is_informational : ℕ → Bool
is_informational status = nat_le 100 status && nat_lt status 200

-- a response of this status has no body, whatever its fields say (RFC 9112, section 6.3)
abbrev pub has_no_body : ℕ → Bool
has_no_body status = is_informational status || status == 204 || status == 304

abbrev pub sized : Result Framing FrameFault → Result ResponseFraming FrameFault
sized (Ok framed_as) = Ok (Sized framed_as)
sized (Err fault) = Err fault

-- what the values of Transfer-Encoding and of Content-Length say of the body of a response of this version: with neither of them it
-- is all that follows up to the end of the stream
abbrev pub framed_response : ℕ → List (List ℕ) → List (List ℕ) → Result ResponseFraming FrameFault
framed_response minor codings lengths =
    if length codings == 0 && length lengths == 0 then Ok ToEnd
    else sized (framed_by most_response minor codings lengths)

-- how the body behind the head of a response is framed, or the first fault that the head shows
abbrev pub response_framing : StatusHead → Result ResponseFraming FrameFault
response_framing head =
    if has_no_body head.status then Ok (Sized (Length 0))
    else framed_response head.minor (values_of (codes "transfer-encoding") head.fields) (values_of (codes "content-length") head.fields)

-- the body that is so framed stands at the front of b, and rest follows
abbrev pub IsResponseBody : ResponseFraming → List ℕ → List ℕ → List ℕ → Type 0
IsResponseBody (Sized framed_as) b body rest = IsBodyWithin most_response framed_as b body rest
IsResponseBody ToEnd b body rest = (body ≡ b) × (rest ≡ []) × (length body ≤ most_response)

-- b begins with no body that is so framed, by this fault
abbrev pub IsResponseBodyRefused : ResponseFraming → List ℕ → FrameFault → Type 0
IsResponseBodyRefused (Sized framed_as) b fault = IsRefusedWithin most_response framed_as b fault
IsResponseBodyRefused ToEnd b fault = (fault ≡ BodyTooLong) × (most_response < length b)

-- these bytes end inside a body that is so framed
abbrev pub IsResponseBodyOpen : ResponseFraming → List ℕ → Type 0
IsResponseBodyOpen (Sized framed_as) taken = IsRefusedWithin most_response framed_as taken Truncated
IsResponseBodyOpen ToEnd taken = length taken ≤ most_response

-- the first bytes of b are this response, a head without a fault and the body that it says, and rest follows
pub record IsResponse (b : List ℕ) (r : SeenResponse) (rest : List ℕ) : Type 0 where
  pub head : StatusHead
  pub after : List ℕ
  pub begins : BeginsWithStatus b head after
  pub framed_as : ResponseFraming
  pub framed : response_framing head ≡ Ok framed_as
  pub body : IsResponseBody framed_as after r.body rest
  pub status_is : r.status ≡ head.status
  pub fields_are : r.fields ≡ head.fields

-- b begins with no response, by this fault
pub data IsResponseRefused (b : List ℕ) (fault : FrameFault) : Type 0 where
  -- bytes stand there, and no head
  no_status_head : fault ≡ BadHead → 0 < length b → HasNoStatusHead b → IsResponseRefused b fault
  -- the head shows the fault
  bad_status_head : (head : StatusHead) (after : List ℕ) → BeginsWithStatus b head after → response_framing head ≡ Err fault
      → IsResponseRefused b fault
  -- the body behind a head without a fault
  bad_response_body : (head : StatusHead) (after : List ℕ) (framed_as : ResponseFraming) → BeginsWithStatus b head after
      → response_framing head ≡ Ok framed_as → IsResponseBodyRefused framed_as after fault → IsResponseRefused b fault

-- b begins with n informational responses one after another, and mid follows
pub data PassesOver : ℕ → List ℕ → List ℕ → Type 0 where
  passes_none : {n : ℕ} {b mid : List ℕ} → n ≡ 0 → b ≡ mid → PassesOver n b mid
  passes_one : {n : ℕ} {b mid : List ℕ} (m : ℕ) (r : SeenResponse) (after : List ℕ) → n ≡ m + 1 → IsResponse b r after
      → is_informational r.status ≡ true → PassesOver m after mid → PassesOver n b mid

-- the frame of a stream of responses: nothing, a response and what follows it, or a refusal
pub data ResponseFrame : Type 0 where
  no_response : ResponseFrame
  response : SeenResponse → List ℕ → ResponseFrame
  response_refusal : FrameFault → ResponseFrame

-- one informational response more than are passed over stands there, which is refused as a bad head
pub record IsOneTooMany (passed : ℕ) (mid : List ℕ) (fault : FrameFault) : Type 0 where
  pub all_passed : passed ≡ most_informational
  pub another : SeenResponse
  pub after : List ℕ
  pub is_response : IsResponse mid another after
  pub informational : is_informational another.status ≡ true
  pub fault_is : fault ≡ BadHead

-- this frame stands behind so many informational responses
abbrev pub IsLast : ℕ → List ℕ → ResponseFrame → Type 0
IsLast passed mid no_response = mid ≡ []
IsLast passed mid (response r rest) = IsResponse mid r rest × (is_informational r.status ≡ false)
IsLast passed mid (response_refusal fault) = IsResponseRefused mid fault ⊎ IsOneTooMany passed mid fault

-- the stream b has this frame, behind at most 16 informational responses, which are passed over
pub record IsResponseFrame (b : List ℕ) (frame : ResponseFrame) : Type 0 where
  pub passed : ℕ
  pub mid : List ℕ
  pub few : passed ≤ most_informational
  pub passes : PassesOver passed b mid
  pub last : IsLast passed mid frame
