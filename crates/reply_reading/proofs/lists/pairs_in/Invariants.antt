use Rattle.std.proofs.Common.{◌≡◌, ◌++◌, map}
use Rattle.api_replies.specs.Tables.{namespace_row}
use Rattle.reply_reading.proofs.lists.pairs_in.Given as goal

abbrev pub invariant-loop-row : goal.invariant-loop-row
invariant-loop-row l = map namespace_row l.pairs ++ l.row-iterator.rest.items ≡ l.fn.rows
