-- The order of texts.
use Rattle.std.specs.Prelude.{ℕ, List, encode_utf8_all}
use Rattle.std.specs.Ordering.{on, nat_cmp}
use Rattle.std.specs.Cmp.{IsTotalOrder}
use Rattle.std.specs.Cmp.Lexicographic.{slice_cmp}
use Rattle.std.specs.declared.cmp.Ordering.{Ordering}
use Rattle.std.proofs.lemmas.Cmp.{on_total, nat_list_cmp_total}

-- texts, as lists of characters, are ordered by their bytes in UTF-8
abbrev pub text_cmp : List ℕ → List ℕ → Ordering
text_cmp = on encode_utf8_all (slice_cmp nat_cmp)

pub text_total : IsTotalOrder text_cmp
text_total = on_total encode_utf8_all nat_list_cmp_total
