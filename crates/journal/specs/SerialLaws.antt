-- What holds of committed SERIALIZABLE transactions: each read as if it ran alone, and the serial journal replies as the journal does.
use Rattle.std.specs.Prelude.{◌≡◌, ◌⊎◌, ℕ, ◌+◌, ◌<◌, ◌≤◌, Bool, true, false, IsTrue, List, [], ◌∷◌, ◌++◌, length, map, take, Some, None, slice_get}
use Rattle.std.specs.Option.{option_map}
use Rattle.std.specs.List.{list_all}
use Rattle.journal.specs.declared.level.Level.TheVariants.{ReadCommitted, Serializable}
use Rattle.journal.specs.declared.txn.Txn.{Txn}
use Rattle.journal.specs.declared.op.Op.{Op}
use Rattle.journal.specs.declared.op.Op.TheVariants.{Begin, Read, Step, Write, Commit, Rollback, Ping, Names}
use Rattle.journal.specs.declared.entry.Entry.{Entry}
use Rattle.journal.specs.declared.limits.Limits.{Limits}
use Rattle.journal.specs.declared.reply.Reply.{Reply}
use Rattle.journal.specs.declared.reply.Reply.TheVariants as reply
use Rattle.journal.specs.Levels.{is_level}
use Rattle.journal.specs.Past.{Judged}
use Rattle.journal.specs.Journal.{committed_after, entry_of, judged, prefixes_after, reply_at, reply_next}
use Rattle.journal.specs.Alone.{ReadsAsIfAlone}
use Rattle.journal.specs.Serial.{entries_of, is_all_serializable, is_of, renamed, serial_journal, serial_order}

-- the entry stands at this place of the past, and is accepted
abbrev pub IsAcceptedAt : List Judged → ℕ → Entry → Type 0
IsAcceptedAt past place e = slice_get past place ≡ Some (record { entry = e; accepted = true })

-- an accepted Commit of t stands at the place
abbrev pub IsCommitAt : List Judged → Txn → ℕ → Type 0
IsCommitAt past t place = (seat : ℕ) × IsAcceptedAt past place (entry_of seat (Commit t))

-- A SERIALIZABLE transaction whose Commit is accepted read as if it ran alone: each of its accepted Reads has the reply that it would get if the
-- transaction's calls stood together at the Commit.
abbrev pub CommittedReadsAsIfAlone : Type 0
CommittedReadsAsIfAlone = (limits : Limits) (journal : List Entry) (t : Txn) (commit : ℕ) → t.level ≡ Serializable
    → IsCommitAt (judged limits journal) t commit → ReadsAsIfAlone limits journal t commit

-- So it is where a Commit is added whose reply is that it is done.
abbrev pub DoneCommitReadsAsIfAlone : Type 0
DoneCommitReadsAsIfAlone = (limits : Limits) (journal : List Entry) (seat : ℕ) (t : Txn) → t.level ≡ Serializable
    → reply_next limits journal (entry_of seat (Commit t)) ≡ reply.Done → ReadsAsIfAlone limits (journal ++ entry_of seat (Commit t) ∷ []) t (length journal)

-- The serial journal

abbrev pub steps_read_committed : Op → Bool
steps_read_committed (Step t query number) = is_level t.level ReadCommitted
steps_read_committed _ = true

-- each Step names a READ_COMMITTED transaction
abbrev pub is_stepped_read_committed : List Entry → Bool
is_stepped_read_committed journal = list_all (λ (e : Entry). steps_read_committed e.op) journal

-- an op that neither begins nor names a transaction
abbrev pub is_outside : Op → Bool
is_outside (Begin l) = false
is_outside (Read None ask) = true
is_outside (Read (Some t) ask) = false
is_outside (Step t query number) = false
is_outside (Write None changes) = true
is_outside (Write (Some t) changes) = false
is_outside (Commit t) = false
is_outside (Rollback t) = false
is_outside (Ping t) = false
is_outside (Names names) = true

-- where the serial journal goes on behind what the entries before this place put there
abbrev pub block_start : Limits → List Judged → ℕ → ℕ
block_start limits past place = length (serial_order limits (take place past))

-- the name in the serial journal of a transaction that commits at this place
abbrev pub new_txn : Limits → List Judged → Txn → ℕ → Txn
new_txn limits past t commit = record { place = block_start limits past commit; level = t.level }

-- where the entry of t at this place stands in the serial journal: in the block of t's Commit, behind the accepted entries of t before it
abbrev pub new_place : Limits → List Judged → Txn → ℕ → ℕ → ℕ
new_place limits past t commit place = block_start limits past commit + length (entries_of limits (take place past) t)

-- the reply with u in the place of the transaction that it names
abbrev pub renamed_reply : Txn → Reply → Reply
renamed_reply u (reply.Begun t) = reply.Begun u
renamed_reply u other = other

-- an accepted entry outside transactions, of which that at the new place is made
pub record IsOutsideAt (limits : Limits) (past : List Judged) (new : ℕ) : Type 0 where
  pub place : ℕ
  pub entry : Entry
  pub accepted : IsAcceptedAt past place entry
  pub outside : IsTrue (is_outside entry.op)
  pub is : new ≡ block_start limits past place

-- an accepted entry of a committed transaction, of which that at the new place is made
pub record IsWithinAt (limits : Limits) (past : List Judged) (new : ℕ) : Type 0 where
  pub txn : Txn
  pub commit : ℕ
  pub committed : IsCommitAt past txn commit
  pub place : ℕ
  pub entry : Entry
  pub accepted : IsAcceptedAt past place entry
  pub within : IsTrue (is_of txn place entry.op)
  pub is : new ≡ new_place limits past txn commit place

-- The serial journal of a journal agrees with it: the kept entries stand in it with the replies that they have in the journal, and it commits the same content.
pub record SerialAgrees (limits : Limits) (journal : List Entry) : Type 0 where
  -- an accepted entry outside transactions stands in it, with the reply that it has in the journal
  pub outside : (place : ℕ) (e : Entry) → IsAcceptedAt (judged limits journal) place e → IsTrue (is_outside e.op)
      → let new = block_start limits (judged limits journal) place in
      (slice_get (serial_journal limits journal) new ≡ Some e) × (reply_at limits (serial_journal limits journal) new ≡ reply_at limits journal place)
  -- an accepted entry of a committed transaction stands in its block, with the transaction renamed in it and in the reply that it has in the journal
  pub within : (t : Txn) (commit place : ℕ) (e : Entry) → IsCommitAt (judged limits journal) t commit
      → IsAcceptedAt (judged limits journal) place e → IsTrue (is_of t place e.op)
      → let u = new_txn limits (judged limits journal) t commit in
      let new = new_place limits (judged limits journal) t commit place in
      (slice_get (serial_journal limits journal) new ≡ Some (renamed u e))
      × (reply_at limits (serial_journal limits journal) new ≡ option_map (renamed_reply u) (reply_at limits journal place))
  -- nothing else stands in it
  pub each : (new : ℕ) → new < length (serial_journal limits journal)
      → IsOutsideAt limits (judged limits journal) new ⊎ IsWithinAt limits (judged limits journal) new
  -- all its entries are accepted
  pub accepted : judged limits (serial_journal limits journal) ≡ map (λ (e : Entry). record { entry = e; accepted = true }) (serial_journal limits journal)
  -- it commits the same content, and leaves the same prefixes
  pub committed : committed_after limits (serial_journal limits journal) ≡ committed_after limits journal
  pub prefixes : prefixes_after limits (serial_journal limits journal) ≡ prefixes_after limits journal

-- Where all accepted Begins are SERIALIZABLE and each Step names a READ_COMMITTED transaction, the serial journal agrees with the journal.
abbrev pub SerialJournalAgrees : Type 0
SerialJournalAgrees = (limits : Limits) (journal : List Entry) → 1 ≤ limits.txns → IsTrue (is_all_serializable (judged limits journal))
    → IsTrue (is_stepped_read_committed journal) → SerialAgrees limits journal
