-- What is true of every repository.
use Rattle.std.specs.Prelude.{◌≡◌, ℕ, ◌≤◌, List, length}
use Rattle.journal.specs.declared.entry.Entry.{Entry}
use Rattle.journal.specs.declared.limits.Limits.{Limits}
use Rattle.journal.specs.Journal.{judged}
use Rattle.iso_txn.specs.Kept.{Kept, Standing}
use Rattle.iso_txn.specs.Repository.{AreAllowed}
use Rattle.iso_txn.specs.Watch.{IsEmptyUnwatched, Watches}

-- the limits are allowed, the entries are counted and fit, what is kept stands for the journal, and no change is kept where no SERIALIZABLE transaction is open
pub record Holds (limits : Limits) (count : ℕ) (journal : List Entry) (kept : Kept) : Type 0 where
  pub allowed : AreAllowed limits
  pub count_is : count ≡ length journal
  pub fits : length journal ≤ limits.places
  pub stands : Standing limits journal kept
  pub watches : Watches limits (judged limits journal) kept.watch
  pub idle : IsEmptyUnwatched kept.watch
