-- What contracts see of a house: its repositories by their IDs.
use Rattle.std.specs.Prelude.{◌≡◌, ℕ, ◌≤◌, IsTrue, List, [], ◌∷◌, length, Option, Some, None, slice_get}
use Rattle.std.specs.List.{list_all}
use Rattle.rdf_term.specs.EachOnce.{EachOnce}
use Rattle.query_model.specs.declared.query.Query.{Query}
use Rattle.journal.specs.declared.entry.Entry.{Entry}
use Rattle.journal.specs.declared.limits.Limits.{Limits}
use Rattle.journal.specs.declared.txn.Txn.{Txn}
use Rattle.iso_txn.specs.Repository.{AreAllowed, PinnedRead, Repository}
use Rattle.api_replies.specs.Ids.{is_id}
use Rattle.repo_store.specs.Stores.{IsNextStep, is_of_one_seat}
use Rattle.session.specs.Marks.{Journals}

-- 1 to 16 distinct IDs
pub record AreNames (names : List (List ℕ)) : Type 0 where
  pub some : 1 ≤ length names
  pub few : length names ≤ 16
  pub ids : IsTrue (list_all is_id names)
  pub once : EachOnce names

-- the IDs of repositories, and the limits of each
pub record Catalog : Type 0 where
  pub names : List (List ℕ)
  pub limits : Limits

pub record IsCatalog (c : Catalog) : Type 0 where
  pub names : AreNames c.names
  pub limits : AreAllowed c.limits

-- all entries of the journal have the seat number 0, and they are no more than these limits allow
pub record IsOwn (limits : Limits) (journal : List Entry) : Type 0 where
  pub seats : IsTrue (is_of_one_seat 0 journal)
  pub room : length journal ≤ limits.places

-- a repository for each ID, of these limits, with no entry but the caller's own
abbrev pub AreOf : Limits → List (List ℕ) → List Repository → Type 0
AreOf limits [] [] = Unit {0}
AreOf limits (name ∷ names) (repo ∷ repos) = (repo.limits ≡ limits) × IsOwn limits repo.journal × AreOf limits names repos
AreOf limits [] (repo ∷ repos) = ⊥
AreOf limits (name ∷ names) [] = ⊥

abbrev pub journal_at : Option Repository → List Entry
journal_at None = []
journal_at (Some repo) = repo.journal

-- the journal of each repository, by its number
abbrev pub journals_of : List Repository → Journals
journals_of repos repo = journal_at (slice_get repos repo)

-- a house: its IDs, the limits of its repositories, and these
pub record House : Type 0 where
  pub names : List (List ℕ)
  pub limits : Limits
  pub repos : List Repository

-- the journal of each repository of a house
abbrev pub house_journals : House → Journals
house_journals house = journals_of house.repos

-- a repository of these limits without an entry, for an ID
abbrev pub new_repo : Limits → List ℕ → Repository
new_repo limits name = record { limits = limits; journal = [] }

-- the Step may be made in the journal of one of these repositories
abbrev pub MayStep : List Repository → ℕ → Txn → Query → ℕ → PinnedRead → Type 0
MayStep repos repo t query number pinned = (r : Repository) → slice_get repos repo ≡ Some r → IsNextStep r 0 t query number pinned
