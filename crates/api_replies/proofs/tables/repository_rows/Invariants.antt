use Rattle.std.proofs.Common.{◌≡◌, map, take}
use Rattle.api_replies.specs.Tables.{repository_row}
use Rattle.api_replies.proofs.tables.repository_rows.Given as goal

abbrev pub invariant-loop-id : goal.invariant-loop-id
invariant-loop-id l = l.rows ≡ map repository_row (take l.id-index l.ids)
