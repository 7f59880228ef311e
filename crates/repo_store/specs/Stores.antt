-- What a store answers, said of the repository before a call and behind it.
use Rattle.std.specs.Prelude.{◌≡◌, ℕ, ◌+◌, Bool, true, not, IsTrue, List, [], ◌∷◌, ◌++◌, length, map, take, Some, None, slice_get, nat_eq, if◌then◌else◌}
use Rattle.std.specs.List.{list_all}
use Rattle.query_model.specs.declared.query.Query.{Query}
use Rattle.query_model.specs.Found.{found as found_query}
use Rattle.query_model.specs.Solutions.{lookups_of}
use Rattle.journal.specs.declared.level.Level.TheVariants.{ReadCommitted}
use Rattle.journal.specs.declared.txn.Txn.{Txn}
use Rattle.journal.specs.declared.ask.Ask.{Ask}
use Rattle.journal.specs.declared.ask.Ask.TheVariants as asks
use Rattle.journal.specs.declared.op.Op.{Op}
use Rattle.journal.specs.declared.op.Op.TheVariants.{Read, Step}
use Rattle.journal.specs.declared.entry.Entry.{Entry}
use Rattle.journal.specs.declared.limits.Limits.{Limits}
use Rattle.journal.specs.declared.reply.Reply.{Reply}
use Rattle.journal.specs.declared.reply.Reply.TheVariants as replies
use Rattle.journal.specs.Past.{Judged, is_live}
use Rattle.journal.specs.Views.{view_at}
use Rattle.journal.specs.Found.{found}
use Rattle.journal.specs.Replies.{before_last, named_txn, step_pasts}
use Rattle.journal.specs.Journal.{entry_of, judged, reply_at}
use Rattle.journal.specs.Legal.{IsInTurn, IsLegal}
use Rattle.journal.specs.SerialLaws.{is_stepped_read_committed}
use Rattle.iso_txn.specs.Repository.{PinnedRead, Repository, with_entry}

-- all entries are of this seat
abbrev pub is_of_one_seat : ℕ → List Entry → Bool
is_of_one_seat seat journal = list_all (λ (e : Entry). nat_eq e.seat seat) journal

-- One entry was added to the journal, at this place, and this is the reply there.
pub record IsEntered (older newer : Repository) (e : Entry) (place : ℕ) (reply : Reply) : Type 0 where
  pub added : newer ≡ with_entry older e
  pub place_is : place ≡ length older.journal
  pub reply_is : reply_at newer.limits newer.journal place ≡ Some reply

-- What is pinned

-- the pasts of the entries that a read is made of, whose last entry stands behind the past: that past, or those of the Steps up to it
abbrev pub pasts_of : List Judged → ℕ → Op → List (List Judged)
pasts_of past seat (Step t query number) = step_pasts number seat past
pasts_of past seat _ = past ∷ []

-- What is pinned is that of the read whose last entry stands behind the past: it is live where the read's transaction was open at each of its entries, and
-- then it holds what the read sees at each of them.
pub record IsPinnedBy (limits : Limits) (past : List Judged) (e : Entry) (pinned : PinnedRead) : Type 0 where
  pub live : pinned.live ≡ list_all (λ past. is_live limits past (named_txn e.op)) (pasts_of past e.seat e.op)
  pub views : pinned.live ≡ true → pinned.views ≡ map (λ past. view_at limits past (named_txn e.op)) (pasts_of past e.seat e.op)
  pub rows : pinned.rows ≡ limits.rows

-- what is pinned is that of the entry at this place of the journal
pub record IsPinnedAt (repo : Repository) (place : ℕ) (e : Entry) (pinned : PinnedRead) : Type 0 where
  pub entry : slice_get repo.journal place ≡ Some e
  pub pinned_by : IsPinnedBy repo.limits (judged repo.limits (take place repo.journal)) e pinned

-- what is pinned is that of the seat's last entry, which does this
abbrev pub IsPinnedLast : Repository → ℕ → Op → PinnedRead → Type 0
IsPinnedLast repo seat op pinned = IsPinnedBy repo.limits (before_last seat (judged repo.limits repo.journal)) (entry_of seat op) pinned

-- A Step may be made: it names a READ_COMMITTED transaction and is in turn, and what is pinned has the views of the Steps before it, whatever they saw.
pub record IsNextStep (repo : Repository) (seat : ℕ) (t : Txn) (query : Query) (number : ℕ) (pinned : PinnedRead) : Type 0 where
  pub level : t.level ≡ ReadCommitted
  pub turn : IsInTurn repo.journal seat t query number
  pub views : length pinned.views ≡ number
  pub first : number ≡ 0 → pinned.live ≡ true
  pub later : (n : ℕ) → number ≡ n + 1 → IsPinnedLast repo seat (Step t query n) pinned

-- the first Step of a query in a READ_COMMITTED transaction may be made whenever nothing is pinned of it yet
abbrev pub FirstStepIsNext : Type 0
FirstStepIsNext = (repo : Repository) (seat : ℕ) (t : Txn) (query : Query) → t.level ≡ ReadCommitted
    → IsNextStep repo seat t query 0 (record { views = []; live = true; rows = 0 })

-- all entries are of other seats
abbrev pub is_of_other_seats : ℕ → List Entry → Bool
is_of_other_seats seat journal = list_all (λ (e : Entry). not (nat_eq e.seat seat)) journal

-- a Step that may be made stays so where the journal goes on by entries of other seats
abbrev pub NextStepStays : Type 0
NextStepStays = (repo : Repository) (more : List Entry) (seat : ℕ) (t : Txn) (query : Query) (number : ℕ) (pinned : PinnedRead)
    → is_of_other_seats seat more ≡ true → IsNextStep repo seat t query number pinned
    → IsNextStep (record { limits = repo.limits; journal = repo.journal ++ more }) seat t query number pinned

-- The answer

-- what an ask finds in what is pinned, or that its transaction wasn't open
unfoldable pub answered : PinnedRead → Ask → Reply
answered pinned ask = if pinned.live then found ask pinned.views pinned.rows else replies.NoTransaction

-- a query that has more solutions in what is pinned than rows are allowed
abbrev pub HasTooManyRows : PinnedRead → Ask → Type 0
HasTooManyRows pinned (asks.Query query) = (pinned.live ≡ true) × (found_query query pinned.views pinned.rows ≡ None)
HasTooManyRows pinned _ = ⊥

-- the op is the last of those that an ask makes
abbrev pub IsLastOf : Op → Ask → Type 0
IsLastOf (Read txn asked) ask = asked ≡ ask
IsLastOf (Step t query number) ask = (ask ≡ asks.Query query) × (number + 1 ≡ lookups_of query)
IsLastOf _ ask = ⊥

-- what is found in what is pinned is the reply at the place of the last entry of the ask
abbrev pub PinnedIsAnswered : Type 0
PinnedIsAnswered = (repo : Repository) (place : ℕ) (e : Entry) (pinned : PinnedRead) (ask : Ask) → IsPinnedAt repo place e pinned → IsLastOf e.op ask
    → reply_at repo.limits repo.journal place ≡ Some (answered pinned ask)

-- Journals that are stored

-- the limits are the repository's and the entries are its journal's, all of this seat; the journal is legal, and its Steps name READ_COMMITTED transactions
pub record IsStored (seat : ℕ) (limits : Limits) (repo : Repository) (entries : List Entry) : Type 0 where
  pub limits_are : limits ≡ repo.limits
  pub same : entries ≡ repo.journal
  pub legal : IsLegal repo.journal
  pub steps : IsTrue (is_stepped_read_committed repo.journal)
  pub seats : IsTrue (is_of_one_seat seat repo.journal)
