use Rattle.std.proofs.Common.{◌≡◌, map, take}
use Rattle.api_replies.specs.Tables.{namespace_row}
use Rattle.api_replies.proofs.tables.namespace_rows.Given as goal

abbrev pub invariant-loop-pair : goal.invariant-loop-pair
invariant-loop-pair l = l.rows ≡ map namespace_row (take l.pair-index l.pairs)
