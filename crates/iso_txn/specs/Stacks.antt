-- Stacks of the changes that reads in transactions see.
use Rattle.std.specs.Prelude.{◌≡◌, List, Option, find}
use Rattle.std.specs.List.{All}
use Rattle.std.specs.List.Sorted.{IsStrictlySortedBy}
use Rattle.rdf_term.specs.Statement.{Statement}
use Rattle.rdf_term.specs.Order.{quad_cmp}
use Rattle.change_set.specs.declared.change.Change.{Change}
use Rattle.change_set.specs.Content.{applied}
use Rattle.branch.specs.Layers.{layered}
use Rattle.journal.specs.declared.txn.Txn.{Txn}
use Rattle.iso_txn.specs.declared.seen.Seen.{Seen}
use Rattle.iso_txn.specs.Kept.{Pending, changes_where, picked, sees}

-- a stack does to each set of quads what these changes do
pub record IsStackOf (changes : List Change) (stack : List (List Change)) : Type 0 where
  pub same : (base : List Statement) → IsStrictlySortedBy quad_cmp base → layered base stack ≡ applied base changes

-- the newer stack does to each set of quads what the older one does and then these changes
pub record IsHigher (older : List (List Change)) (changes : List Change) (newer : List (List Change)) : Type 0 where
  pub more : (base : List Statement) → IsStrictlySortedBy quad_cmp base → layered base newer ≡ applied (layered base older) changes

-- a stack of the pending writes that a read in this transaction sees
abbrev pub IsStackFor : List Pending → Txn → List (List Change) → Type 0
IsStackFor writes t stack = IsStackOf (changes_where (sees t) writes) stack

-- after a write came a stack is still that of the same transaction, and has the write's changes too where this sees it
pub record IsFollowed (older : Seen) (write : Pending) (newer : Seen) : Type 0 where
  pub txn : newer.txn ≡ older.txn
  pub stack : IsHigher older.stack (picked (sees older.txn) write) newer.stack

-- each stack is one of the pending writes that its transaction sees
pub record AreSeen (writes : List Pending) (seen : List Seen) : Type 0 where
  pub all : All (λ (it : Seen). IsStackFor writes it.txn it.stack) seen

-- what reads in a transaction see, where it is among these
abbrev pub find_seen : Txn → List Seen → Option Seen
find_seen t seen = find (λ (it : Seen). sees t it.txn) seen
