-- A content with its size.
use Rattle.std.specs.Prelude.{◌≡◌, ℕ, ◌<◌, ◌^◌, List, length}
use Rattle.std.specs.List.Sorted.{IsStrictlySortedBy}
use Rattle.rdf_term.specs.Statement.{Statement}
use Rattle.rdf_term.specs.Order.{quad_cmp}
use Rattle.journal.specs.Replies.{bytes_of}

-- the quads ascend, and there are so many, with so many bytes in their canonical lines
pub record IsSized (content : List Statement) (quads bytes : ℕ) : Type 0 where
  pub ascending : IsStrictlySortedBy quad_cmp content
  pub quads_are : quads ≡ length content
  pub bytes_are : bytes ≡ bytes_of content
  pub few_quads : quads < 2 ^ 62
  pub few_bytes : bytes < 2 ^ 62
