-- What a head says of its body, and the faults that it shows by itself (RFC 9112, sections 3.2 and 6; RFC 9110, section 10.1.1).
use Rattle.std.specs.Prelude.{ℕ, ◌+◌, ◌-◌, ◌*◌, Bool, true, false, ◌&&◌, ◌||◌, not, ◌==◌, List, [], ◌∷◌, length, fold, Option, Some, None, Result, Ok, Err, if◌then◌else◌, nat_lt, nat_le, codes}
use Rattle.std.specs.List.{list_all}
use Rattle.std.specs.Char.{is_ascii_digit}
use Rattle.http_frame.specs.Fields.{same_name, values_of, has_option}
use Rattle.http_frame.specs.Limits.{most_body}
use Rattle.http_frame.specs.declared.fault.FrameFault.{FrameFault}
use Rattle.http_frame.specs.declared.fault.FrameFault.TheVariants.{BadHost, BadBody, BodyTooLong, Coding}
use Rattle.http_frame.specs.declared.framing.Framing.{Framing}
use Rattle.http_frame.specs.declared.framing.Framing.TheVariants.{Length, Chunked}
use Rattle.http_frame.specs.declared.message.Head.{Head}

-- a request of version 1.1 has no Host field, or several
abbrev pub lacks_host : ℕ → List (List ℕ × List ℕ) → Bool
lacks_host minor fields = not (minor == 0) && not (length (values_of (codes "host") fields) == 1)

-- the number that decimal digits write
abbrev pub decimal_value : List ℕ → ℕ
decimal_value ds = fold (λ n d. n * 10 + (d - 48)) 0 ds

-- one decimal digit or more, and nothing else
abbrev pub is_numeral : List ℕ → Bool
is_numeral v = nat_lt 0 (length v) && list_all is_ascii_digit v

-- a body of the length that the digits write, where a body may have so many bytes
abbrev pub length_value : ℕ → List ℕ → Result Framing FrameFault
length_value most v =
    if is_numeral v then (if nat_le (decimal_value v) most then Ok (Length (decimal_value v)) else Err BodyTooLong)
    else Err BadBody

-- what the values of Content-Length say: there is none, one or more
abbrev pub length_of : ℕ → List (List ℕ) → Result Framing FrameFault
length_of most [] = Ok (Length 0)
length_of most (v ∷ []) = length_value most v
length_of most (v ∷ w ∷ vs) = Err BadBody

-- what a transfer coding says, in a message of this version with these values of Content-Length
abbrev pub coded : ℕ → List (List ℕ) → Bool → Result Framing FrameFault
coded minor lengths chunked =
    if minor == 0 || nat_lt 0 (length lengths) then Err BadBody
    else if chunked then Ok Chunked
    else Err Coding

-- what the values of Transfer-Encoding and of Content-Length say in a message of this version whose body may have this many bytes;
-- one field with `chunked` is read
abbrev pub framed_by : ℕ → ℕ → List (List ℕ) → List (List ℕ) → Result Framing FrameFault
framed_by most minor [] lengths = length_of most lengths
framed_by most minor (c ∷ []) lengths = coded minor lengths (same_name c (codes "chunked"))
framed_by most minor (c ∷ d ∷ cs) lengths = coded minor lengths false

-- how the body behind the head of a request of this version with these fields is framed, or the first fault that the head shows
abbrev pub framing_of : ℕ → List (List ℕ × List ℕ) → Result Framing FrameFault
framing_of minor fields =
    if lacks_host minor fields then Err BadHost
    else framed_by most_body minor (values_of (codes "transfer-encoding") fields) (values_of (codes "content-length") fields)

-- the same of a head
abbrev pub framing : Head → Result Framing FrameFault
framing head = framing_of head.minor head.fields

abbrev pub fault_in : Result Framing FrameFault → Option FrameFault
fault_in (Ok it) = None
fault_in (Err fault) = Some fault

-- the first fault that a head shows by itself; an accepted head has none
abbrev pub head_fault : Head → Option FrameFault
head_fault head = fault_in (framing head)

-- a body follows that is not empty, or may not be
abbrev pub has_body : Result Framing FrameFault → Bool
has_body (Ok (Length n)) = nat_lt 0 n
has_body (Ok Chunked) = true
has_body (Err fault) = false

-- a head that shows no fault asks for `100 Continue` before its body is read
abbrev pub expects : ℕ → List (List ℕ × List ℕ) → Bool
expects minor fields = not (minor == 0) && has_option (codes "expect") (codes "100-continue") fields && has_body (framing_of minor fields)
