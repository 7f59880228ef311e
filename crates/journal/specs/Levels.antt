-- Levels of isolation, and when two transactions are one.
use Rattle.std.specs.Prelude.{ℕ, Bool, true, false, ◌&&◌, Option, Some, None, nat_eq}
use Rattle.journal.specs.declared.level.Level.{Level}
use Rattle.journal.specs.declared.level.Level.TheVariants.{NoIsolation, ReadUncommitted, ReadCommitted, SnapshotRead, Snapshot, Serializable}
use Rattle.journal.specs.declared.txn.Txn.{Txn}

-- the number of a level: NONE is 0, SERIALIZABLE 5
abbrev pub level_number : Level → ℕ
level_number NoIsolation = 0
level_number ReadUncommitted = 1
level_number ReadCommitted = 2
level_number SnapshotRead = 3
level_number Snapshot = 4
level_number Serializable = 5

-- two levels are one where their numbers are
abbrev pub is_level : Level → Level → Bool
is_level a b = nat_eq (level_number a) (level_number b)

-- two transactions are one where their places and their levels are
abbrev pub is_txn : Txn → Txn → Bool
is_txn t u = nat_eq t.place u.place && is_level t.level u.level

-- a write without a transaction or in one at NONE is committed at once
abbrev pub commits_at_once : Option Txn → Bool
commits_at_once None = true
commits_at_once (Some t) = is_level t.level NoIsolation

-- at SNAPSHOT and SERIALIZABLE a transaction reads what was committed before it began
abbrev pub sees_begin : Level → Bool
sees_begin NoIsolation = false
sees_begin ReadUncommitted = false
sees_begin ReadCommitted = false
sees_begin SnapshotRead = false
sees_begin Snapshot = true
sees_begin Serializable = true
