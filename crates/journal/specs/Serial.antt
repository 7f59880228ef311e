-- The serial journal: each committed transaction as one block at its Commit.
use Rattle.std.specs.Prelude.{ℕ, Bool, true, false, not, ◌&&◌, ◌||◌, List, [], ◌∷◌, ◌++◌, length, map, Option, Some, None, nat_eq, if◌then◌else◌}
use Rattle.std.specs.List.{list_all}
use Rattle.journal.specs.declared.level.Level.TheVariants.{Serializable}
use Rattle.journal.specs.declared.txn.Txn.{Txn}
use Rattle.journal.specs.declared.op.Op.{Op}
use Rattle.journal.specs.declared.op.Op.TheVariants.{Begin, Read, Step, Write, Commit, Rollback, Ping, Names}
use Rattle.journal.specs.declared.entry.Entry.{Entry}
use Rattle.journal.specs.declared.limits.Limits.{Limits}
use Rattle.journal.specs.Levels.{is_level, is_txn}
use Rattle.journal.specs.Past.{Judged, joined}
use Rattle.journal.specs.Replies.{named_txn}
use Rattle.journal.specs.Journal.{entry_of, judged}

-- the journals of which serial ones are made: all their accepted Begins are SERIALIZABLE

abbrev pub begins_serializable : Op → Bool
begins_serializable (Begin l) = is_level l Serializable
begins_serializable _ = true

abbrev pub is_all_serializable : List Judged → Bool
is_all_serializable past = list_all (λ (e : Judged). not e.accepted || begins_serializable e.entry.op) past

-- The entries of a transaction

abbrev pub is_named : Txn → Option Txn → Bool
is_named t None = false
is_named t (Some u) = is_txn t u

-- t's Begin, which stands at t's place, or an op that names t
abbrev pub is_of : Txn → ℕ → Op → Bool
is_of t place (Begin l) = nat_eq place t.place && is_level t.level l
is_of t place op = is_named t (named_txn op)

-- the accepted entries of t, in order
unfoldable pub entries_of : Limits → List Judged → Txn → List Entry
entries_of limits past t = joined (λ before e. if e.accepted && is_of t (length before) e.entry.op then e.entry ∷ [] else []) past

-- the op with u in the place of the transaction that it names
abbrev pub renamed_op : Txn → Op → Op
renamed_op u (Begin l) = Begin l
renamed_op u (Read None ask) = Read None ask
renamed_op u (Read (Some t) ask) = Read (Some u) ask
renamed_op u (Step t query number) = Step u query number
renamed_op u (Write None changes) = Write None changes
renamed_op u (Write (Some t) changes) = Write (Some u) changes
renamed_op u (Commit t) = Commit u
renamed_op u (Rollback t) = Rollback u
renamed_op u (Ping t) = Ping u
renamed_op u (Names names) = Names names

abbrev pub renamed : Txn → Entry → Entry
renamed u e = entry_of e.seat (renamed_op u e.op)

-- The serial journal

-- what an accepted entry puts at this place of the serial journal: a Commit all accepted entries of its transaction and itself, the transaction renamed
-- to this place; an entry without a transaction itself; any other nothing
abbrev pub block_of : Limits → ℕ → List Judged → ℕ → Op → List Entry
block_of limits place past seat (Commit t) =
    map (renamed (record { place = place; level = t.level })) (entries_of limits past t ++ entry_of seat (Commit t) ∷ [])
block_of limits place past seat (Read None ask) = entry_of seat (Read None ask) ∷ []
block_of limits place past seat (Write None changes) = entry_of seat (Write None changes) ∷ []
block_of limits place past seat (Names names) = entry_of seat (Names names) ∷ []
block_of limits place past seat _ = []

-- a refused entry puts nothing there
abbrev pub block_at : Limits → ℕ → List Judged → Judged → List Entry
block_at limits place past e = if e.accepted then block_of limits place past e.entry.seat e.entry.op else []

abbrev pub serial_behind : Limits → List Judged → List Entry → List Judged → List Entry
serial_behind limits before serial [] = serial
serial_behind limits before serial (e ∷ es) =
    serial_behind limits (before ++ e ∷ []) (serial ++ block_at limits (length serial) before e) es

-- the serial order of a past: the block of each entry, one after the other
unfoldable pub serial_order : Limits → List Judged → List Entry
serial_order limits past = serial_behind limits [] [] past

-- the serial journal of a journal
unfoldable pub serial_journal : Limits → List Entry → List Entry
serial_journal limits journal = serial_order limits (judged limits journal)
