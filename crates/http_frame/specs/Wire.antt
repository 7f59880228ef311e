-- The bytes of a response (RFC 9112, sections 4 to 6; reason phrases after RFC 9110, section 15).
use Rattle.std.specs.Prelude.{ℕ, Bool, true, false, List, [], ◌++◌, ◌==◌, ◌&&◌, not, length, codes, decimal, if◌then◌else◌}
use Rattle.std.specs.List.{flat_map}
use Rattle.httparse.specs.Ascii.{crlf_bytes}
use Rattle.http_frame.specs.Messages.{SeenResponse}
use Rattle.http_frame.specs.declared.message.Head.{Head}

-- the reason phrase of a status code
abbrev pub reason : ℕ → List ℕ
reason status =
    if status == 200 then codes "OK"
    else if status == 201 then codes "Created"
    else if status == 204 then codes "No Content"
    else if status == 400 then codes "Bad Request"
    else if status == 404 then codes "Not Found"
    else if status == 405 then codes "Method Not Allowed"
    else if status == 406 then codes "Not Acceptable"
    else if status == 409 then codes "Conflict"
    else if status == 413 then codes "Content Too Large"
    else if status == 415 then codes "Unsupported Media Type"
    else if status == 429 then codes "Too Many Requests"
    else if status == 501 then codes "Not Implemented"
    else if status == 503 then codes "Service Unavailable"
    else if status == 507 then codes "Insufficient Storage"
    else []

abbrev pub status_line : ℕ → List ℕ
status_line status = codes "HTTP/1.1 " ++ decimal status ++ codes " " ++ reason status ++ crlf_bytes

abbrev pub field_line : List ℕ × List ℕ → List ℕ
field_line field = field.0 ++ codes ": " ++ field.1 ++ crlf_bytes

abbrev pub field_lines : List (List ℕ × List ℕ) → List ℕ
field_lines fields = flat_map field_line fields

abbrev pub length_line : ℕ → List ℕ
length_line n = codes "Content-Length: " ++ decimal n ++ crlf_bytes

-- the end of the head
abbrev pub closing : Bool → List ℕ
closing true = codes "Connection: close" ++ crlf_bytes ++ crlf_bytes
closing false = crlf_bytes

-- the length, the end of the head and the body, or the end of the head alone
abbrev pub framed : List ℕ → Bool → Bool → List ℕ
framed body true closes = length_line (length body) ++ closing closes ++ body
framed body false closes = closing closes

-- the bytes of a response to a request of this minor version; one of status 204 has neither length nor body, and neither has one
-- that is to have none. No byte depends on the version, since each body that is sent has its length.
unfoldable pub wire : SeenResponse → ℕ → Bool → Bool → List ℕ
wire r minor closes bodiless = status_line r.status ++ field_lines r.fields ++ framed r.body (not (r.status == 204) && not bodiless) closes

-- what is written before the body of a request is read that asks for it (RFC 9110, sections 10.1.1 and 15.2.1)
abbrev pub continue_of : Head → List ℕ
continue_of head = if head.expects then codes "HTTP/1.1 100 Continue" ++ crlf_bytes ++ crlf_bytes else []
