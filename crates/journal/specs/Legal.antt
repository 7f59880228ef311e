-- Legal journals: the Steps of a query follow one another.
use Rattle.std.specs.Prelude.{◌≡◌, ℕ, ◌+◌, ◌<◌, List, Option, Some, nat_eq, slice_get, take, find, reverse}
use Rattle.std.specs.Option.{option_map}
use Rattle.query_model.specs.declared.query.Query.{Query}
use Rattle.query_model.specs.Solutions.{lookups_of}
use Rattle.journal.specs.declared.txn.Txn.{Txn}
use Rattle.journal.specs.declared.op.Op.{Op}
use Rattle.journal.specs.declared.op.Op.TheVariants.{Step}
use Rattle.journal.specs.declared.entry.Entry.{Entry}

-- the op of the last entry of the seat, where it has one
abbrev pub last_op : ℕ → List Entry → Option Op
last_op seat journal = option_map (λ (e : Entry). e.op) (find (λ (e : Entry). nat_eq e.seat seat) (reverse journal))

-- A Step of the seat behind the journal is in turn: its number is below the Steps of its query, and where it is above 0, the seat's last entry is the Step
-- before it of the same transaction and query.
pub record IsInTurn (journal : List Entry) (seat : ℕ) (t : Txn) (query : Query) (number : ℕ) : Type 0 where
  pub below : number < lookups_of query
  pub follows : (n : ℕ) → number ≡ n + 1 → last_op seat journal ≡ Some (Step t query n)

-- the entry behind the journal is in turn where it is a Step; any other always is
abbrev pub IsLegalNext : List Entry → Entry → Type 0
IsLegalNext journal e = (t : Txn) (query : Query) (number : ℕ) → e.op ≡ Step t query number → IsInTurn journal e.seat t query number

-- each Step of a legal journal is in turn behind the entries before it
abbrev pub IsLegal : List Entry → Type 0
IsLegal journal = (place : ℕ) (e : Entry) → slice_get journal place ≡ Some e → IsLegalNext (take place journal) e
