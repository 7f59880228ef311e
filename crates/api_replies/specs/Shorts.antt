-- The responses that are written without memory.
use Rattle.std.specs.Prelude.{ℕ, Bool, true, false, List, Option, Some, None}
use Rattle.journal.specs.declared.op.NamesOp.TheVariants as name
use Rattle.journal.specs.declared.op.Op.{Op}
use Rattle.journal.specs.declared.op.Op.TheVariants.{Read, Step, Commit, Names}
use Rattle.journal.specs.declared.reply.Reply.{Reply}
use Rattle.journal.specs.declared.reply.Reply.TheVariants as reply
use Rattle.journal.specs.Journal.{is_commit}
use Rattle.http_frame.specs.Messages.{SeenResponse}
use Rattle.http_frame.specs.Wire.{wire}
use Rattle.api_replies.specs.declared.short.Short.{Short}
use Rattle.api_replies.specs.declared.short.Short.TheVariants as short
use Rattle.api_replies.specs.Parts.{no_transaction, too_many_open, too_large, journal_full, no_memory, created, done}

-- the response of each case, for a repository of this ID
unfoldable pub short_response : List ℕ → Short → SeenResponse
short_response repo (short.Begun t) = created repo t
short_response repo short.Committed = done true
short_response repo short.Done = done false
short_response repo short.NoTransaction = no_transaction
short_response repo short.TooManyOpen = too_many_open
short_response repo short.TooLarge = too_large
short_response repo short.JournalFull = journal_full
short_response repo short.OutOfMemory = no_memory

-- its bytes
abbrev pub short_bytes : List ℕ → Short → ℕ → Bool → Bool → List ℕ
short_bytes repo it minor closes bodiless = wire (short_response repo it) minor closes bodiless

abbrev pub done_short : Bool → Short
done_short true = short.Committed
done_short false = short.Done

-- the case of a reply to an op, where the reply is answered without memory
abbrev pub short_of : Op → Reply → Option Short
short_of op (reply.Begun t) = Some (short.Begun t)
short_of op reply.Done = Some (done_short (is_commit op))
short_of op reply.NoTransaction = Some short.NoTransaction
short_of op reply.TooManyOpen = Some short.TooManyOpen
short_of op reply.TooLarge = Some short.TooLarge
short_of op (reply.Table table) = None
short_of op (reply.Truth truth) = None
short_of op (reply.Quads quads) = None
short_of op (reply.Count count) = None
short_of op (reply.Contexts names) = None
short_of op (reply.Prefixes pairs) = None
short_of op (reply.Prefix name) = None
short_of op reply.NoPrefix = None
short_of op (reply.Conflict pattern quad) = None
short_of op reply.TooManyRows = None

-- the replies that are answered with memory: what a Read, a Step or a look at the namespaces finds, and a clash of a Commit
abbrev pub TakesMemory : Op → Reply → Type 0
TakesMemory (Read txn ask) r = Unit {0}
TakesMemory (Step t query number) r = Unit {0}
TakesMemory (Names name.List) r = Unit {0}
TakesMemory (Names (name.Get a)) r = Unit {0}
TakesMemory (Commit t) (reply.Conflict pattern quad) = Unit {0}
TakesMemory _ _ = ⊥
