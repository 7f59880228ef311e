-- The head of a stream (RFC 9112, sections 2.1 to 5), in the grammar of `httparse`.
use Rattle.std.specs.Prelude.{◌≡◌, ℕ, ◌≤◌, List, length, map, encode_utf8_all}
use Rattle.httparse.specs.Grammar.{RequestHead, print_request, ReadsRequest}
use Rattle.httparse.specs.Spans.{name_and_value}
use Rattle.http_frame.specs.Fields.{closes}
use Rattle.http_frame.specs.Framing.{expects}
use Rattle.http_frame.specs.Limits.{most_head, most_fields}
use Rattle.http_frame.specs.declared.message.Head.{Head}

-- the first bytes of b are the head h, of at most 65,536 bytes and 128 fields, and rest follows
pub record IsHeadOf (b : List ℕ) (h : RequestHead) (rest : List ℕ) : Type 0 where
  pub reads : ReadsRequest b h rest
  pub short : length (print_request h) ≤ most_head
  pub few : length h.fields ≤ most_fields

-- no first bytes of b are such a head
abbrev pub HasNoHead : List ℕ → Type 0
HasNoHead b = (h : RequestHead) (rest : List ℕ) → ¬ (IsHeadOf b h rest)

-- what is kept of a head
pub record Shows (h : RequestHead) (head : Head) : Type 0 where
  pub method : encode_utf8_all head.method ≡ h.method
  pub target : encode_utf8_all head.target ≡ h.target
  pub minor : head.minor ≡ h.minor
  pub fields : head.fields ≡ map name_and_value h.fields
  pub expects : head.expects ≡ expects h.minor (map name_and_value h.fields)
  pub closes : head.closes ≡ closes h.minor (map name_and_value h.fields)
