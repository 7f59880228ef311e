-- What a call of a store does to the journals of its repositories.
use Rattle.std.specs.Prelude.{◌≡◌, ℕ, ◌≤◌, [], ◌∷◌, length, true, Some, slice_get}
use Rattle.journal.specs.declared.op.Op.{Op}
use Rattle.journal.specs.declared.fault.StoreFault.{StoreFault}
use Rattle.journal.specs.declared.fault.StoreFault.TheVariants.{JournalFull}
use Rattle.journal.specs.declared.limits.Limits.{Limits}
use Rattle.journal.specs.declared.reply.Reply.{Reply}
use Rattle.journal.specs.Journal.{entry_of, reply_at}
use Rattle.iso_txn.specs.Repository.{PinnedRead}
use Rattle.session.specs.Marks.{Journals, Moves, mark_at}

-- Each journal went on, and this entry is the one new entry with the seat's number. The journal has no more entries than it may have.
pub record Adds (limits : Limits) (seats : ℕ → ℕ) (old new : Journals) (repo : ℕ) (op : Op) (place : ℕ) : Type 0 where
  pub moves : Moves seats old new (mark_at repo place ∷ [])
  pub stands : slice_get (new repo) place ≡ Some (entry_of (seats repo) op)
  pub within : length (new repo) ≤ limits.places

-- Each journal went on with no new entry of the seat; and where that was answered, the journal of the repository is full.
pub record Fails (limits : Limits) (seats : ℕ → ℕ) (old new : Journals) (repo : ℕ) (fault : StoreFault) : Type 0 where
  pub moves : Moves seats old new []
  pub full : fault ≡ JournalFull → limits.places ≤ length (new repo)

-- this is the reply at this place of the repository's journal
abbrev pub Replies : Limits → Journals → ℕ → ℕ → Reply → Type 0
Replies limits journals repo place reply = reply_at limits (journals repo) place ≡ Some reply

-- before the first Step of a query nothing is pinned
abbrev pub nothing_pinned : PinnedRead
nothing_pinned = record { views = []; live = true; rows = 0 }
