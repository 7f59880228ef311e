-- What a repository and a pinned read are to their callers.
use Rattle.std.specs.Prelude.{◌≡◌, ℕ, ◌≤◌, ◌^◌, Bool, true, false, Option, Some, None, List, [], ◌∷◌, ◌++◌, length}
use Rattle.rdf_term.specs.Statement.{Statement}
use Rattle.journal.specs.declared.entry.Entry.{Entry}
use Rattle.journal.specs.declared.limits.Limits.{Limits}
use Rattle.journal.specs.declared.reply.Reply.{Reply}
use Rattle.journal.specs.Conflicts.{deltas_since}
use Rattle.journal.specs.Journal.{is_live_after, judged, reply_next}
use Rattle.iso_txn.specs.Watch.{reader_at}

-- limits that a repository may have: each is at least 1 and at most the standard one
pub record AreAllowed (limits : Limits) : Type 0 where
  pub quads : (1 ≤ limits.quads) × (limits.quads ≤ 1048576)
  pub bytes : (1 ≤ limits.bytes) × (limits.bytes ≤ 268435456)
  pub rows : (1 ≤ limits.rows) × (limits.rows ≤ 1048576)
  pub txns : (1 ≤ limits.txns) × (limits.txns ≤ 1024)
  pub names : (1 ≤ limits.names) × (limits.names ≤ 65536)
  pub places : (1 ≤ limits.places) × (limits.places ≤ 2 ^ 62)

-- a repository: its limits and its journal
pub record Repository : Type 0 where
  pub limits : Limits
  pub journal : List Entry

-- the repository with one more entry
abbrev pub with_entry : Repository → Entry → Repository
with_entry repo e = record { limits = repo.limits; journal = repo.journal ++ e ∷ [] }

-- the reply to that entry
abbrev pub next_reply : Repository → Entry → Reply
next_reply repo e = reply_next repo.limits repo.journal e

-- the journal has as many entries as it may have
abbrev pub IsFull : Repository → Type 0
IsFull repo = repo.limits.places ≤ length repo.journal

-- no SERIALIZABLE transaction is open
abbrev pub NoneSerializable : Repository → Type 0
NoneSerializable repo = (place : ℕ) → is_live_after repo.limits repo.journal (Some (reader_at place)) ≡ false

-- since the Begin of each open SERIALIZABLE transaction the committed content wasn't changed
abbrev pub IsUnchangedMeanwhile : Repository → Type 0
IsUnchangedMeanwhile repo = (place : ℕ) → is_live_after repo.limits repo.journal (Some (reader_at place)) ≡ true
    → deltas_since repo.limits (judged repo.limits repo.journal) (reader_at place) ≡ []

-- a pinned read: the contents that it sees, whether its transaction was open at each of its entries, and the most rows that it may find
pub record PinnedRead : Type 0 where
  pub views : List (List Statement)
  pub live : Bool
  pub rows : ℕ

-- of a read with one view, and of a read whose transaction isn't open
abbrev pub pinned_of : Option (List Statement) → ℕ → PinnedRead
pinned_of (Some view) rows = record { views = view ∷ []; live = true; rows = rows }
pinned_of None rows = record { views = []; live = false; rows = rows }
