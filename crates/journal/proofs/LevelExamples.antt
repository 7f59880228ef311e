-- Worked cases of views and replies at each level, by computation.
use Rattle.std.proofs.Common.{◌≡◌, List, [], ◌∷◌, Some, None, refl, true, false, codes}
use Rattle.rdf_term.specs.declared.term.Term.{Term}
use Rattle.rdf_term.specs.declared.term.Term.TheVariants.{Iri}
use Rattle.rdf_term.specs.declared.graph.Graph.TheVariants.{Absent}
use Rattle.rdf_term.specs.Statement.{Statement}
use Rattle.change_set.specs.declared.change.Change.TheVariants.{Add, Remove}
use Rattle.query_model.specs.declared.query.Slot.TheVariants.{Var, Fixed}
use Rattle.query_model.specs.declared.query.Scope.TheVariants as scope
use Rattle.query_model.specs.declared.query.Query.{Query}
use Rattle.query_model.specs.declared.query.Query.TheVariants.{Select}
use Rattle.journal.specs.declared.level.Level.TheVariants.{NoIsolation, ReadUncommitted, ReadCommitted, SnapshotRead, Snapshot}
use Rattle.journal.specs.declared.ask.Ask.TheVariants as ask
use Rattle.journal.specs.declared.op.Op.TheVariants.{Begin, Read, Step, Write, Commit, Rollback}
use Rattle.journal.specs.declared.entry.Entry.{Entry}
use Rattle.journal.specs.declared.reply.Reply.TheVariants as reply
use Rattle.journal.specs.Journal.{is_live_after, judged, reply_at}
use Rattle.journal.specs.Views.{dirty_changes}
use Rattle.journal.proofs.ExampleParts.{adds, entry, everything, limits, one, p, size, two, txn}

-- a SNAPSHOT transaction beside one at SNAPSHOT_READ: a quad that is committed behind both Begins is seen by the second alone
abbrev snapshot_beside_snapshot_read : List Entry
snapshot_beside_snapshot_read =
    entry (Begin Snapshot) ∷ entry (Begin SnapshotRead) ∷ adds None one ∷ size (Some (txn 0 Snapshot)) ∷ size (Some (txn 1 SnapshotRead)) ∷ []

second_begin : reply_at limits snapshot_beside_snapshot_read 1 ≡ Some (reply.Begun (txn 1 SnapshotRead))
unfolding everything
second_begin = refl

snapshot_sees_its_begin : reply_at limits snapshot_beside_snapshot_read 3 ≡ Some (reply.Count 0)
unfolding everything
snapshot_sees_its_begin = refl

snapshot_read_sees_the_commit : reply_at limits snapshot_beside_snapshot_read 4 ≡ Some (reply.Count 1)
unfolding everything
snapshot_read_sees_the_commit = refl

-- of two READ_UNCOMMITTED transactions one writes and rolls back; what a SNAPSHOT transaction has written is seen by neither
abbrev one_rolls_back : List Entry
one_rolls_back =
    entry (Begin ReadUncommitted) ∷ entry (Begin ReadUncommitted) ∷ entry (Begin Snapshot)
    ∷ adds (Some (txn 1 ReadUncommitted)) one ∷ adds (Some (txn 2 Snapshot)) two ∷ size (Some (txn 0 ReadUncommitted))
    ∷ entry (Rollback (txn 1 ReadUncommitted)) ∷ size (Some (txn 0 ReadUncommitted)) ∷ []

dirty_before : (reply_at limits one_rolls_back 5 ≡ Some (reply.Count 1)) × (reply_at limits one_rolls_back 6 ≡ Some reply.Done)
unfolding everything
dirty_before = (refl, refl)

clean_behind : (reply_at limits one_rolls_back 7 ≡ Some (reply.Count 0)) × (dirty_changes limits (judged limits one_rolls_back) ≡ [])
unfolding everything
clean_behind = (refl, refl)

open_behind : (is_live_after limits one_rolls_back (Some (txn 1 ReadUncommitted)) ≡ false) × (is_live_after limits one_rolls_back (Some (txn 2 Snapshot)) ≡ true)
unfolding everything
open_behind = (refl, refl)

-- at NONE a write is committed at once, and a rollback takes nothing back
abbrev none_rolls_back : List Entry
none_rolls_back = entry (Begin NoIsolation) ∷ adds (Some (txn 0 NoIsolation)) one ∷ entry (Rollback (txn 0 NoIsolation)) ∷ size None ∷ []

rollback_takes_nothing_back : reply_at limits none_rolls_back 3 ≡ Some (reply.Count 1)
unfolding everything
rollback_takes_nothing_back = refl

-- SELECT ?x WHERE { <http://e/a> <http://e/p> ?x . ?x <http://e/q> ?y }, and two quads that answer it together
abbrev a : Term
a = Iri (codes "http://e/a")

abbrev b : Term
b = Iri (codes "http://e/b")

abbrev q : Term
q = Iri (codes "http://e/q")

abbrev two_patterns : Query
two_patterns = Select false (codes "x" ∷ [])
    (record { s = Fixed a; p = Fixed p; o = Var (codes "x"); g = scope.Any } ∷ record { s = Var (codes "x"); p = Fixed q; o = Var (codes "y"); g = scope.Any } ∷ [])
    (record { limit = None; offset = 0 })

abbrev first : Statement
first = record { s = a; p = p; o = b; c = Absent }

abbrev second : Statement
second = record { s = b; p = q; o = Iri (codes "http://e/c"); c = Absent }

-- at READ_COMMITTED each pattern has a place of its own: another seat removes the first quad and adds the second between the two Steps, and there is a row
abbrev in_two_steps : List Entry
in_two_steps =
    adds None first ∷ entry (Begin ReadCommitted) ∷ entry (Step (txn 1 ReadCommitted) two_patterns 0)
    ∷ record { seat = 1; op = Write None (Remove first ∷ Add second ∷ []) } ∷ entry (Step (txn 1 ReadCommitted) two_patterns 1) ∷ []

a_row_of_two_views : reply_at limits in_two_steps 4 ≡ Some (reply.Table (record { vars = codes "x" ∷ []; rows = (Some b ∷ []) ∷ [] }))
unfolding everything
a_row_of_two_views = refl

-- at SNAPSHOT_READ a query has one place, before the write or behind it, and there is no row
abbrev in_one_read : List Entry
in_one_read =
    adds None first ∷ entry (Begin SnapshotRead) ∷ entry (Read (Some (txn 1 SnapshotRead)) (ask.Query two_patterns))
    ∷ entry (Write None (Remove first ∷ Add second ∷ [])) ∷ entry (Read (Some (txn 1 SnapshotRead)) (ask.Query two_patterns)) ∷ []

no_row_of_one_view : (reply_at limits in_one_read 2 ≡ Some (reply.Table (record { vars = codes "x" ∷ []; rows = [] })))
    × (reply_at limits in_one_read 4 ≡ Some (reply.Table (record { vars = codes "x" ∷ []; rows = [] })))
unfolding everything
no_row_of_one_view = (refl, refl)

-- a query whose transaction was ended between its Steps has no transaction at its last
abbrev ended_between : List Entry
ended_between =
    entry (Begin ReadCommitted) ∷ entry (Step (txn 0 ReadCommitted) two_patterns 0)
    ∷ record { seat = 1; op = Commit (txn 0 ReadCommitted) } ∷ entry (Step (txn 0 ReadCommitted) two_patterns 1) ∷ []

no_transaction_at_the_last : (reply_at limits ended_between 1 ≡ Some reply.Done) × (reply_at limits ended_between 3 ≡ Some reply.NoTransaction)
unfolding everything
no_transaction_at_the_last = (refl, refl)
