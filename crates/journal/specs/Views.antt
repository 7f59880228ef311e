-- What a read sees, by the level of its transaction.
use Rattle.std.specs.Prelude.{◌&&◌, List, [], ◌++◌, take, Option, Some, None, if◌then◌else◌}
use Rattle.std.specs.List.{flat_map}
use Rattle.rdf_term.specs.Statement.{Statement}
use Rattle.change_set.specs.declared.change.Change.{Change}
use Rattle.change_set.specs.Content.{content}
use Rattle.journal.specs.declared.level.Level.{Level}
use Rattle.journal.specs.declared.level.Level.TheVariants.{NoIsolation, ReadUncommitted, ReadCommitted, SnapshotRead, Snapshot, Serializable}
use Rattle.journal.specs.declared.txn.Txn.{Txn}
use Rattle.journal.specs.declared.op.Op.{Op}
use Rattle.journal.specs.declared.op.Op.TheVariants.{Write}
use Rattle.journal.specs.declared.limits.Limits.{Limits}
use Rattle.journal.specs.Levels.{is_level}
use Rattle.journal.specs.Past.{Judged, is_open, own_changes}
use Rattle.journal.specs.Committed.{committed, committed_changes}

-- the changes of a Write in a READ_UNCOMMITTED transaction that is open
abbrev pub uncommitted : Limits → List Judged → Op → List Change
uncommitted limits past (Write (Some t) changes) = if is_level t.level ReadUncommitted && is_open limits past t then changes else []
uncommitted limits past _ = []

-- the dirty changes: those of the accepted Writes of all READ_UNCOMMITTED transactions that are open, in order
unfoldable pub dirty_changes : Limits → List Judged → List Change
dirty_changes limits past = flat_map (λ (e : Judged). if e.accepted then uncommitted limits past e.entry.op else []) past

-- NONE: what is committed. READ_UNCOMMITTED: that, and the dirty changes. READ_COMMITTED and SNAPSHOT_READ: that, and t's own changes.
-- SNAPSHOT and SERIALIZABLE: what was committed before t began, and its own changes.
abbrev pub view_by_level : Level → Limits → List Judged → Txn → List Statement
view_by_level NoIsolation limits past t = committed limits past
view_by_level ReadUncommitted limits past t = content (committed_changes limits past ++ dirty_changes limits past)
view_by_level ReadCommitted limits past t = content (committed_changes limits past ++ own_changes limits past t)
view_by_level SnapshotRead limits past t = content (committed_changes limits past ++ own_changes limits past t)
view_by_level Snapshot limits past t = content (committed_changes limits (take t.place past) ++ own_changes limits past t)
view_by_level Serializable limits past t = content (committed_changes limits (take t.place past) ++ own_changes limits past t)

-- the view of a Read or a Step behind the past; without a transaction it sees what is committed
unfoldable pub view_at : Limits → List Judged → Option Txn → List Statement
view_at limits past None = committed limits past
view_at limits past (Some t) = view_by_level t.level limits past t
