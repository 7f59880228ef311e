-- The replies that can come to a call, whatever the journal holds.
use Rattle.std.specs.Prelude.{◌≡◌, ℕ, ◌<◌, ◌^◌, ◌⊎◌, List, Option, IsSome, IsTrue, length}
use Rattle.std.specs.List.{All}
use Rattle.rdf_term.specs.Matching.{matches}
use Rattle.query_model.specs.declared.query.Query.{Query}
use Rattle.query_model.specs.declared.query.Query.TheVariants.{Select, Ask as AskQuery, Construct}
use Rattle.query_model.specs.declared.table.Table.{Table}
use Rattle.journal.specs.declared.level.Level.{Level}
use Rattle.journal.specs.declared.level.Level.TheVariants.{Serializable}
use Rattle.journal.specs.declared.txn.Txn.{Txn}
use Rattle.journal.specs.declared.ask.Ask.{Ask}
use Rattle.journal.specs.declared.ask.Ask.TheVariants as ask
use Rattle.journal.specs.declared.op.NamesOp.{NamesOp}
use Rattle.journal.specs.declared.op.NamesOp.TheVariants as name
use Rattle.journal.specs.declared.op.Op.{Op}
use Rattle.journal.specs.declared.op.Op.TheVariants.{Begin, Read, Step, Write, Commit, Rollback, Ping, Names}
use Rattle.journal.specs.declared.reply.Reply.{Reply}
use Rattle.journal.specs.declared.reply.Reply.TheVariants as reply
use Rattle.journal.specs.Levels.{commits_at_once}
use Rattle.journal.specs.Replies.{named_txn}
use Rattle.api_calls.specs.declared.call.Call.{Call}
use Rattle.api_calls.specs.declared.call.Call.TheVariants.{Protocol, Repositories, On}

-- a table of these variables, with a place for each in each row
abbrev pub IsTableOf : List (List ℕ) → Table → Type 0
IsTableOf vars table = (table.vars ≡ vars) × All (λ row. length row ≡ length vars) table.rows

-- a SELECT finds a table, an ASK a truth value and a CONSTRUCT quads; a SELECT and a CONSTRUCT may have too many solutions
abbrev pub FitsQuery : Query → Reply → Type 0
FitsQuery (Select distinct vars group cut) (reply.Table table) = IsTableOf vars table
FitsQuery (Select distinct vars group cut) reply.TooManyRows = Unit {0}
FitsQuery (AskQuery group) (reply.Truth truth) = Unit {0}
FitsQuery (Construct template group cut) (reply.Quads quads) = Unit {0}
FitsQuery (Construct template group cut) reply.TooManyRows = Unit {0}
FitsQuery _ _ = ⊥

-- what an ask finds
abbrev pub FitsAsk : Ask → Reply → Type 0
FitsAsk (ask.Query query) r = FitsQuery query r
FitsAsk (ask.List s p o contexts) (reply.Quads quads) = Unit {0}
FitsAsk (ask.Size contexts) (reply.Count count) = Unit {0}
FitsAsk ask.Contexts (reply.Contexts names) = Unit {0}
FitsAsk _ _ = ⊥

-- a prefix may stand for nothing, and a new one may be one too many
abbrev pub FitsNames : NamesOp → Reply → Type 0
FitsNames name.List (reply.Prefixes pairs) = Unit {0}
FitsNames (name.Get a) (reply.Prefix b) = Unit {0}
FitsNames (name.Get a) reply.NoPrefix = Unit {0}
FitsNames (name.Put a b) reply.Done = Unit {0}
FitsNames (name.Put a b) reply.TooLarge = Unit {0}
FitsNames (name.Remove a) reply.Done = Unit {0}
FitsNames name.Clear reply.Done = Unit {0}
FitsNames _ _ = ⊥

-- what is done
abbrev pub IsDone : Reply → Type 0
IsDone reply.Done = Unit {0}
IsDone _ = ⊥

-- a Write that commits at once may be too large
abbrev pub FitsWrite : Option Txn → Reply → Type 0
FitsWrite txn reply.Done = Unit {0}
FitsWrite txn reply.TooLarge = IsTrue (commits_at_once txn)
FitsWrite txn _ = ⊥

-- a Commit may be too large, and at SERIALIZABLE it may clash with a quad that an observed pattern matches
abbrev pub FitsCommit : Txn → Reply → Type 0
FitsCommit t reply.Done = Unit {0}
FitsCommit t reply.TooLarge = Unit {0}
FitsCommit t (reply.Conflict pattern quad) = (t.level ≡ Serializable) × IsTrue (matches pattern quad)
FitsCommit t _ = ⊥

-- a Begin gives a transaction of its level, whose place has a name, unless too many are open
abbrev pub FitsBegin : Level → Reply → Type 0
FitsBegin level (reply.Begun t) = (t.level ≡ level) × (t.place < 2 ^ 62)
FitsBegin level reply.TooManyOpen = Unit {0}
FitsBegin level _ = ⊥

-- a Step that isn't the last of its query is done
abbrev pub FitsStep : Query → Reply → Type 0
FitsStep query reply.Done = Unit {0}
FitsStep query r = FitsQuery query r

-- the replies to an op that names no transaction or an open one
abbrev pub FitsLive : Op → Reply → Type 0
FitsLive (Begin level) r = FitsBegin level r
FitsLive (Read txn ask) r = FitsAsk ask r
FitsLive (Step t query number) r = FitsStep query r
FitsLive (Write txn changes) r = FitsWrite txn r
FitsLive (Commit t) r = FitsCommit t r
FitsLive (Rollback t) r = IsDone r
FitsLive (Ping t) r = IsDone r
FitsLive (Names names) r = FitsNames names r

-- the replies to an op: where it names a transaction, that one may not be open
abbrev pub FitsOp : Op → Reply → Type 0
FitsOp op r = FitsLive op r ⊎ ((r ≡ reply.NoTransaction) × IsSome (named_txn op))

-- the replies to a call; one without entries is done
abbrev pub Fits : Call → Reply → Type 0
Fits Protocol r = r ≡ reply.Done
Fits (Repositories form) r = r ≡ reply.Done
Fits (On repo op form) r = FitsOp op r
