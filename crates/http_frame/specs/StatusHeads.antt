-- The head of a response (RFC 9112, sections 2.1, 4 and 5), in the grammar of `httparse`.
use Rattle.std.specs.Prelude.{◌≡◌, ℕ, ◌≤◌, List, length, map}
use Rattle.httparse.specs.Grammar.{ResponseHead, status_code, print_response, ReadsResponse}
use Rattle.httparse.specs.Spans.{name_and_value}
use Rattle.http_frame.specs.Limits.{most_head, most_fields}
use Rattle.http_frame.specs.declared.message.StatusHead.{StatusHead}

-- the first bytes of b are the head h, of at most 65,536 bytes and 128 fields, and rest follows
pub record IsStatusHeadOf (b : List ℕ) (h : ResponseHead) (rest : List ℕ) : Type 0 where
  pub reads : ReadsResponse b h rest
  pub short : length (print_response h) ≤ most_head
  pub few : length h.fields ≤ most_fields

-- no first bytes of b are such a head
abbrev pub HasNoStatusHead : List ℕ → Type 0
HasNoStatusHead b = (h : ResponseHead) (rest : List ℕ) → ¬ (IsStatusHeadOf b h rest)

-- what is kept of a head: the number that its three digits write, its version and its fields
pub record ShowsStatus (h : ResponseHead) (head : StatusHead) : Type 0 where
  pub status : head.status ≡ status_code h
  pub minor : head.minor ≡ h.minor
  pub fields : head.fields ≡ map name_and_value h.fields

-- the first bytes of b are a head, shown as this one, and after follows
pub record BeginsWithStatus (b : List ℕ) (shown : StatusHead) (after : List ℕ) : Type 0 where
  pub head : ResponseHead
  pub reads : IsStatusHeadOf b head after
  pub shows : ShowsStatus head shown
