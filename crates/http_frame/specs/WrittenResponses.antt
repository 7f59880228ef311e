-- Which responses are read as they are written, and what a reader is given of them.
use Rattle.std.specs.Prelude.{◌≡◌, ◌≢◌, ℕ, ◌≤◌, ◌<◌, ◌==◌, Bool, List, [], ◌∷◌, ◌++◌, length, codes, decimal, All, if◌then◌else◌}
use Rattle.httparse.specs.Ascii.{crlf_bytes}
use Rattle.httparse.specs.Grammar.{AllPass, IsToken, is_value_byte, trim_ows}
use Rattle.http_frame.specs.Fields.{values_of}
use Rattle.http_frame.specs.Limits.{most_head, most_fields, most_response}
use Rattle.http_frame.specs.Messages.{SeenResponse}
use Rattle.http_frame.specs.Wire.{status_line, field_lines}

-- the name is a token, and the value has no control byte but the tab, and no white space at its ends
pub record IsPlainField (field : List ℕ × List ℕ) : Type 0 where
  pub name : IsToken field.0
  pub value : AllPass is_value_byte field.1
  pub trimmed : trim_ows field.1 ≡ field.1

abbrev pub length_field : List ℕ → List ℕ × List ℕ
length_field body = (codes "Content-Length", decimal (length body))

abbrev pub close_field : List ℕ × List ℕ
close_field = (codes "Connection", codes "close")

-- the fields of a response as they are written: its own, its length unless it has no content, and whether the connection ends
abbrev pub written_fields : SeenResponse → Bool → List (List ℕ × List ℕ)
written_fields r closes =
    r.fields ++ (if r.status == 204 then [] else length_field r.body ∷ []) ++ (if closes then close_field ∷ [] else [])

-- what a reader is given of it
abbrev pub read_back : SeenResponse → Bool → SeenResponse
read_back r closes = record { status = r.status; fields = written_fields r closes; body = if r.status == 204 then [] else r.body }

-- a response that is read as it is written: it is no informational one, and 304 with a body is none; its fields are plain and say
-- nothing of the framing; and it keeps the limits of a reader
pub record IsReadable (r : SeenResponse) (closes : Bool) : Type 0 where
  pub final : 200 ≤ r.status
  pub three_digits : r.status < 1000
  pub modified : r.status ≢ 304
  pub fields : All IsPlainField r.fields
  pub no_length : values_of (codes "content-length") r.fields ≡ []
  pub no_coding : values_of (codes "transfer-encoding") r.fields ≡ []
  pub short : length (status_line r.status ++ field_lines (written_fields r closes) ++ crlf_bytes) ≤ most_head
  pub few : length (written_fields r closes) ≤ most_fields
  pub body : length r.body ≤ most_response
