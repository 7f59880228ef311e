-- A past: the entries of a journal so far, oldest first, each with whether it was accepted. Which transactions are open in it, and what they wrote.
-- Every word on pasts takes the limits of the repository first, and none asks how the past came to be.
use Rattle.std.specs.Prelude.{ℕ, ◌+◌, Bool, true, false, not, ◌&&◌, List, [], ◌∷◌, ◌++◌, length, filter, drop, Option, Some, None, nat_lt, if◌then◌else◌, slice_get}
use Rattle.std.specs.List.{list_any, flat_map}
use Rattle.change_set.specs.declared.change.Change.{Change}
use Rattle.journal.specs.declared.level.Level.{Level}
use Rattle.journal.specs.declared.level.Level.TheVariants.{NoIsolation}
use Rattle.journal.specs.declared.txn.Txn.{Txn}
use Rattle.journal.specs.declared.op.Op.{Op}
use Rattle.journal.specs.declared.op.Op.TheVariants.{Begin, Write, Commit, Rollback}
use Rattle.journal.specs.declared.entry.Entry.{Entry}
use Rattle.journal.specs.declared.limits.Limits.{Limits}
use Rattle.journal.specs.Levels.{is_level, is_txn}

-- an entry, and whether it was accepted
pub record Judged : Type 0 where
  pub entry : Entry
  pub accepted : Bool

-- what f makes of each entry and the entries before it, joined in order, behind these
abbrev pub joined_from : {A : Type 0} → List Judged → (List Judged → Judged → List A) → List Judged → List A
joined_from before f [] = []
joined_from before f (e ∷ es) = f before e ++ joined_from (before ++ e ∷ []) f es

-- what f makes of each entry and the entries before it, joined in order
abbrev pub joined : {A : Type 0} → (List Judged → Judged → List A) → List Judged → List A
joined f past = joined_from [] f past

-- Open transactions

abbrev pub is_begin : Level → Op → Bool
is_begin l (Begin m) = is_level l m
is_begin l _ = false

abbrev pub is_end : Txn → Op → Bool
is_end t (Commit u) = is_txn t u
is_end t (Rollback u) = is_txn t u
is_end t _ = false

-- an accepted Begin of t's level
abbrev pub begins : Txn → Option Judged → Bool
begins t None = false
begins t (Some e) = e.accepted && is_begin t.level e.entry.op

-- an accepted Commit or Rollback of t
abbrev pub ends : Txn → Judged → Bool
ends t e = e.accepted && is_end t e.entry.op

-- t is open: the entry at its place is an accepted Begin of its level, and no accepted Commit or Rollback of t stands behind that. No limit ends a transaction.
unfoldable pub is_open : Limits → List Judged → Txn → Bool
is_open limits past t =
    nat_lt t.place (length past) && begins t (slice_get past t.place) && not (list_any (ends t) (drop (t.place + 1) past))

-- there is no transaction, or it is open
abbrev pub is_live : Limits → List Judged → Option Txn → Bool
is_live limits past None = true
is_live limits past (Some t) = is_open limits past t

-- the transaction that a Begin at this place names
abbrev pub begun_by : ℕ → Op → List Txn
begun_by place (Begin l) = record { place = place; level = l } ∷ []
begun_by place _ = []

-- the open transactions, in the order of their Begins
unfoldable pub open_txns : Limits → List Judged → List Txn
open_txns limits past = filter (is_open limits past) (joined (λ before e. begun_by (length before) e.entry.op) past)

-- What a transaction wrote

-- the changes of a Write in t
abbrev pub written : Txn → Op → List Change
written t (Write (Some u) changes) = if is_txn t u then changes else []
written t _ = []

abbrev pub own_by_level : Level → Txn → List Judged → List Change
own_by_level NoIsolation t past = []
own_by_level _ t past = flat_map (λ (e : Judged). if e.accepted then written t e.entry.op else []) past

-- t's own changes: those of its accepted Writes, in order; at NONE there are none, since each was committed at once
unfoldable pub own_changes : Limits → List Judged → Txn → List Change
own_changes limits past t = own_by_level t.level t past
