use Rattle.std.proofs.Common.{◌≡◌, ◌++◌, map}
use Rattle.api_replies.specs.Tables.{context_row}
use Rattle.reply_reading.proofs.lists.contexts_in.Given as goal

abbrev pub invariant-loop-row : goal.invariant-loop-row
invariant-loop-row l = map context_row l.names ++ l.row-iterator.rest.items ≡ l.fn.rows
