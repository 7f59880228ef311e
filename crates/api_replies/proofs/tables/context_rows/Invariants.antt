use Rattle.std.proofs.Common.{◌≡◌, map, take}
use Rattle.api_replies.specs.Tables.{context_row}
use Rattle.api_replies.proofs.tables.context_rows.Given as goal

abbrev pub invariant-loop-name : goal.invariant-loop-name
invariant-loop-name l = l.rows ≡ map context_row (take l.name-index l.names)
