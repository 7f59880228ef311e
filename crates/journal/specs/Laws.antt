-- How the words on journals grow by one entry.
use Rattle.std.specs.Prelude.{◌≡◌, ℕ, ◌+◌, ◌<◌, ◌&&◌, not, List, [], ◌∷◌, ◌++◌, length, filter, take, Some, if◌then◌else◌}
use Rattle.std.specs.List.{list_any}
use Rattle.change_set.specs.Content.{applied}
use Rattle.journal.specs.declared.txn.Txn.{Txn}
use Rattle.journal.specs.declared.entry.Entry.{Entry}
use Rattle.journal.specs.declared.limits.Limits.{Limits}
use Rattle.journal.specs.Levels.{is_txn}
use Rattle.journal.specs.Past.{Judged, begun_by, ends, is_open, open_txns, own_changes}
use Rattle.journal.specs.Committed.{applied_changes, committed, prefixes_behind, prefixes_of}
use Rattle.journal.specs.Conflicts.{delta_at, deltas_since, observed as observed_patterns, observed_by}
use Rattle.journal.specs.Replies.{is_accepted}
use Rattle.journal.specs.Journal.{commits_in, is_commit, judged, judged_entry, reply_at, reply_next}
use Rattle.journal.specs.Legal.{IsLegal, IsLegalNext}

-- The entries of a journal are judged where they stand, and what comes later changes nothing: one more entry is judged by those before it, a journal that
-- goes on begins with the same judged entries, and there are as many as entries.
pub record EachEntryIsJudgedOnce : Type 0 where
  pub next : (limits : Limits) (journal : List Entry) (e : Entry)
      → judged limits (journal ++ e ∷ []) ≡ judged limits journal ++ judged_entry limits (judged limits journal) e ∷ []
  pub prefix : (limits : Limits) (journal later : List Entry) → take (length journal) (judged limits (journal ++ later)) ≡ judged limits journal
  pub count : (limits : Limits) (journal : List Entry) → length (judged limits journal) ≡ length journal

-- the reply at a place is fixed by the entries up to it
abbrev pub ReplyReadsNoLaterEntry : Type 0
ReplyReadsNoLaterEntry = (limits : Limits) (journal later : List Entry) (place : ℕ) → place < length journal
    → reply_at limits (journal ++ later) place ≡ reply_at limits journal place

-- the reply to an entry that is added is the reply at its place from then on
abbrev pub ReplyAtTheEnd : Type 0
ReplyAtTheEnd = (limits : Limits) (journal : List Entry) (e : Entry) (later : List Entry)
    → reply_at limits (journal ++ e ∷ later) (length journal) ≡ Some (reply_next limits journal e)

-- one more entry makes of the committed content that content with the entry's changes applied
abbrev pub CommittedInTurn : Type 0
CommittedInTurn = (limits : Limits) (past : List Judged) (e : Judged)
    → committed limits (past ++ e ∷ []) ≡ applied (committed limits past) (applied_changes limits past e)

-- one more entry leaves of the open transactions those that it doesn't end, and behind them stands the one that it begins
abbrev pub OpenTransactionsInTurn : Type 0
OpenTransactionsInTurn = (limits : Limits) (past : List Judged) (e : Judged)
    → open_txns limits (past ++ e ∷ [])
    ≡ filter (λ t. not (ends t e)) (open_txns limits past) ++ (if e.accepted then begun_by (length past) e.entry.op else [])

-- a transaction is open where it is among the open ones
abbrev pub TransactionIsAmongTheOpenOnes : Type 0
TransactionIsAmongTheOpenOnes = (limits : Limits) (past : List Judged) (t : Txn) → is_open limits past t ≡ list_any (is_txn t) (open_txns limits past)

-- the journal without entries is legal, one more legal entry leaves it so, and what a legal journal begins with is legal
pub record LegalInTurn : Type 0 where
  pub empty : IsLegal []
  pub next : (journal : List Entry) (e : Entry) → IsLegal journal → IsLegalNext journal e → IsLegal (journal ++ e ∷ [])
  pub prefix : (journal later : List Entry) → IsLegal (journal ++ later) → IsLegal journal

-- one more entry adds to a transaction's own changes those that it writes by itself
abbrev pub OwnChangesInTurn : Type 0
OwnChangesInTurn = (limits : Limits) (past : List Judged) (e : Judged) (t : Txn)
    → own_changes limits (past ++ e ∷ []) t ≡ own_changes limits past t ++ own_changes limits (e ∷ []) t

-- one more entry does to the prefixes what it says, where it is accepted
abbrev pub PrefixesInTurn : Type 0
PrefixesInTurn = (limits : Limits) (past : List Judged) (e : Judged)
    → prefixes_of limits (past ++ e ∷ []) ≡ (if e.accepted then prefixes_behind (prefixes_of limits past) e.entry.op else prefixes_of limits past)

-- one more entry adds to what a transaction observed the patterns of its Read, and to the deltas since its Begin its own delta
pub record ConflictsInTurn : Type 0 where
  pub observed : (limits : Limits) (past : List Judged) (e : Judged) (t : Txn)
      → observed_patterns limits (past ++ e ∷ []) t ≡ observed_patterns limits past t ++ (if e.accepted then observed_by limits past t e.entry.op else [])
  pub deltas : (limits : Limits) (past : List Judged) (e : Judged) (t : Txn) → t.place < length past
      → deltas_since limits (past ++ e ∷ []) t ≡ deltas_since limits past t ++ delta_at limits past e

-- one more entry is counted among the accepted Commits where it is one
abbrev pub CommitsInTurn : Type 0
CommitsInTurn = (limits : Limits) (journal : List Entry) (e : Entry)
    → commits_in limits (journal ++ e ∷ []) ≡ commits_in limits journal + (if is_accepted limits (judged limits journal) e && is_commit e.op then 1 else 0)
