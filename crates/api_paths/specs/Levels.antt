-- The names of levels of isolation in parameters.
use Rattle.std.specs.Prelude.{ℕ, Bool, ◌==◌, ◌||◌, List, [], fold, Option, Some, None, if◌then◌else◌, codes}
use Rattle.std.specs.List.{slice_split}
use Rattle.std.specs.Str.{bytes_eq}
use Rattle.journal.specs.declared.level.Level.{Level}
use Rattle.journal.specs.declared.level.Level.TheVariants.{NoIsolation, ReadUncommitted, ReadCommitted, SnapshotRead, Snapshot, Serializable}

-- the level of a name, in capitals
abbrev pub level_named : List ℕ → Option Level
level_named name =
    if bytes_eq name (codes "NONE") then Some NoIsolation
    else if bytes_eq name (codes "READ_UNCOMMITTED") then Some ReadUncommitted
    else if bytes_eq name (codes "READ_COMMITTED") then Some ReadCommitted
    else if bytes_eq name (codes "SNAPSHOT_READ") then Some SnapshotRead
    else if bytes_eq name (codes "SNAPSHOT") then Some Snapshot
    else if bytes_eq name (codes "SERIALIZABLE") then Some Serializable
    else None

-- `#` or `/`
abbrev pub is_mark : ℕ → Bool
is_mark b = b == 35 || b == 47

-- what stands behind the last `#` or `/`, or all where there is neither: the last of the parts that are cut there
abbrev pub last_part : List ℕ → List ℕ
last_part text = fold (λ before part. part) [] (slice_split is_mark text)

-- the level that a text names by its last part
abbrev pub level_of : List ℕ → Option Level
level_of text = level_named (last_part text)
