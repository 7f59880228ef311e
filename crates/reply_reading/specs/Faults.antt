-- Where a reader of a body refuses it: the line or the row, counted from 1, and 0 where the reader names none.
use Rattle.std.specs.Prelude.{ℕ, ◌+◌, Result}
use Rattle.std.specs.declared.result.Result.TheVariants.{Ok, Err}
use Rattle.nquads.specs.declared.fault.DataFault.{DataFault}
use Rattle.nquads.specs.declared.fault.DataFault.TheVariants as line
use Rattle.results_json.specs.declared.fault.ResultFault.{ResultFault}
use Rattle.results_json.specs.declared.fault.ResultFault.TheVariants as row
use Rattle.reply_reading.specs.declared.got.ReplyFault.{ReplyFault}
use Rattle.reply_reading.specs.declared.got.ReplyFault.TheVariants.{BadReply, Memory}

-- the reader of documents counts lines from 1
abbrev pub line_fault : DataFault → ReplyFault
line_fault (line.BadLine n) = BadReply n
line_fault (line.TooLong n) = BadReply n
line_fault line.Memory = Memory

-- the reader of tables counts rows from 0
abbrev pub row_fault : ResultFault → ReplyFault
row_fault row.NotJson = BadReply 0
row_fault row.BadShape = BadReply 0
row_fault (row.BadTerm n) = BadReply (n + 1)
row_fault row.Memory = Memory

-- what a fault means, by what a place of refusal means; want of memory says nothing
abbrev pub IsFault : (ℕ → Type 0) → ReplyFault → Type 0
IsFault Bad (BadReply n) = Bad n
IsFault Bad Memory = Unit {0}

-- what an answer means, by what its value means and what a place of refusal does
abbrev pub IsAnswer : {T : Type 0} → (T → Type 0) → (ℕ → Type 0) → Result T ReplyFault → Type 0
IsAnswer Good Bad (Ok value) = Good value
IsAnswer Good Bad (Err fault) = IsFault Bad fault
