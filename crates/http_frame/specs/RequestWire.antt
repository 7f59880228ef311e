-- The bytes of a request (RFC 9112, sections 3, 5 and 6), and which requests they give back.
use Rattle.std.specs.Prelude.{◌≡◌, ℕ, ◌≤◌, true, false, List, [], ◌∷◌, ◌++◌, length, codes, decimal, encode_utf8_all}
use Rattle.httparse.specs.Ascii.{crlf_bytes}
use Rattle.httparse.specs.Grammar.{RequestHead, IsRequestHead}
use Rattle.http_frame.specs.Fields.{values_of}
use Rattle.http_frame.specs.Framing.{lacks_host, is_numeral, decimal_value}
use Rattle.http_frame.specs.Heads.{Shows}
use Rattle.http_frame.specs.Limits.{most_head, most_fields, most_body}
use Rattle.http_frame.specs.Messages.{SeenRequest}
use Rattle.http_frame.specs.Wire.{field_lines}
use Rattle.http_frame.specs.declared.message.Head.{Head}

-- method, target and version
abbrev pub request_line : Head → List ℕ
request_line head =
    encode_utf8_all head.method ++ codes " " ++ encode_utf8_all head.target ++ codes " HTTP/1." ++ decimal head.minor ++ crlf_bytes

-- the request line, each field in order, and an empty line
abbrev pub head_bytes : Head → List ℕ
head_bytes head = request_line head ++ field_lines head.fields ++ crlf_bytes

-- the head and the body of a request
unfoldable pub request_wire : SeenRequest → List ℕ
request_wire r = head_bytes r.head ++ r.body

-- what the values of Content-Length say is this length: with none there is no body
abbrev pub IsLengthSaid : List (List ℕ) → ℕ → Type 0
IsLengthSaid [] n = n ≡ 0
IsLengthSaid (v ∷ []) n = (is_numeral v ≡ true) × (decimal_value v ≡ n)
IsLengthSaid (v ∷ w ∷ vs) n = ⊥

-- some head spells the request, however long it is; it shows no fault, has no transfer coding, and says the length of the body
pub record IsSpelled (r : SeenRequest) : Type 0 where
  pub head : RequestHead
  pub is_head : IsRequestHead head
  pub shows : Shows head r.head
  pub host : lacks_host r.head.minor r.head.fields ≡ false
  pub no_coding : values_of (codes "transfer-encoding") r.head.fields ≡ []
  pub length_is : IsLengthSaid (values_of (codes "content-length") r.head.fields) (length r.body)

-- the request as it is written keeps the limits of a reader
pub record KeepsLimits (r : SeenRequest) : Type 0 where
  pub short : length (head_bytes r.head) ≤ most_head
  pub few : length r.head.fields ≤ most_fields
  pub body : length r.body ≤ most_body
