-- What contracts see of a house that several workers share, and of one worker's passes.
use Rattle.std.specs.Prelude.{◌≡◌, ℕ, ◌+◌, ◌<◌, ◌++◌, IsTrue, List, [], ◌∷◌, length, Option, Some, None, slice_get, vec_len, vec_capacity}
use Rattle.journal_lock.specs.Passes.{seat_of, seen}
use Rattle.query_model.specs.declared.query.Query.{Query}
use Rattle.journal.specs.declared.entry.Entry.{Entry}
use Rattle.journal.specs.declared.level.Level.TheVariants.{Serializable}
use Rattle.journal.specs.declared.limits.Limits.{Limits}
use Rattle.journal.specs.declared.txn.Txn.{Txn}
use Rattle.journal.specs.Alone.{ReadsAsIfAlone}
use Rattle.journal.specs.Journal.{judged}
use Rattle.journal.specs.Legal.{IsLegal}
use Rattle.journal.specs.SerialLaws.{IsCommitAt, is_stepped_read_committed}
use Rattle.iso_txn.specs.Repository.{AreAllowed, PinnedRead}
use Rattle.repo_store.specs.Stores.{IsNextStep}
use Rattle.shared_repo.specs.Passes.{IsPass, RepoPass, as_seen, limits_of, passes_of}
use Rattle.shared_repo.specs.declared.repo.Repo.{Repo}
use Rattle.session.specs.Houses.{AreNames}
use Rattle.session.specs.Marks.{Journals}
use Rattle.shared_session.specs.declared.passes.Passes.{Passes}

-- The house

-- a house: the IDs of its repositories, the limits of each, and a repository for each ID, in order
pub record House : Type 0 where
  pub names : List (List ℕ)
  pub limits : Limits
  pub repos : List Repo

-- these repositories have the limits
abbrev pub HaveLimits : Limits → List Repo → Type 0
HaveLimits limits [] = Unit {0}
HaveLimits limits (r ∷ rs) = (limits_of r ≡ limits) × HaveLimits limits rs

pub record IsHouse (house : House) : Type 0 where
  pub names : AreNames house.names
  pub allowed : AreAllowed house.limits
  pub count : length house.repos ≡ length house.names
  pub limits : HaveLimits house.limits house.repos

-- each of these repositories was made with so many passes
abbrev pub HaveSeats : ℕ → List Repo → Type 0
HaveSeats count [] = Unit {0}
HaveSeats count (r ∷ rs) = (passes_of r ≡ count) × HaveSeats count rs

-- The passes of a worker

-- a pass for each of these repositories, in order; none has the turn, the list of each is legal, and the Steps in it name READ_COMMITTED transactions
abbrev pub AreOf : List Repo → List RepoPass → Type 0
AreOf [] [] = Unit {0}
AreOf (r ∷ rs) (p ∷ ps) = IsPass r p × AreOf rs ps
AreOf [] (p ∷ ps) = ⊥
AreOf (r ∷ rs) [] = ⊥

-- the passes are those of a worker of this house
abbrev pub IsOf : House → Passes → Type 0
IsOf house passes = AreOf house.repos passes.list.items

-- the same of each worker's
abbrev pub AllOf : House → List Passes → Type 0
AllOf house [] = Unit {0}
AllOf house (w ∷ ws) = IsOf house w × AllOf house ws

abbrev pub list_at : Option RepoPass → List Entry
list_at None = []
list_at (Some p) = seen p

abbrev pub seat_at : Option RepoPass → ℕ
seat_at None = 0
seat_at (Some p) = seat_of p

-- what these passes have seen, by the number of the repository
abbrev pub lists : List RepoPass → Journals
lists ps repo = list_at (slice_get ps repo)

-- and their seat numbers
abbrev pub seats : List RepoPass → ℕ → ℕ
seats ps repo = seat_at (slice_get ps repo)

-- the journal of each repository, as far as the worker has seen it
abbrev pub journals : Passes → Journals
journals passes = lists passes.list.items

-- the number of the worker's seat in each repository
abbrev pub numbers : Passes → ℕ → ℕ
numbers passes = seats passes.list.items

-- these passes have this seat number, and have seen nothing
abbrev pub AreNew : ℕ → List RepoPass → Type 0
AreNew k [] = Unit {0}
AreNew k (p ∷ ps) = ((seat_of p ≡ k) × (seen p ≡ [])) × AreNew k ps

-- these workers have the seat numbers from k on, each the same in all repositories, and have seen nothing
abbrev pub AreFirst : ℕ → List Passes → Type 0
AreFirst k [] = Unit {0}
AreFirst k (w ∷ ws) = AreNew k w.list.items × AreFirst (k + 1) ws

-- What is said of the journals

-- each journal is legal, and the Steps in it name READ_COMMITTED transactions
abbrev pub AreLegal : Journals → Type 0
AreLegal journals = (repo : ℕ) → IsLegal (journals repo) × IsTrue (is_stepped_read_committed (journals repo))

-- in each journal a SERIALIZABLE transaction whose Commit is accepted read as if it ran alone
abbrev pub ReadAsIfAlone : Limits → Journals → Type 0
ReadAsIfAlone limits journals = (repo : ℕ) (t : Txn) (commit : ℕ) → t.level ≡ Serializable → IsCommitAt (judged limits (journals repo)) t commit
    → ReadsAsIfAlone limits (journals repo) t commit

-- the Step may be the next entry of the worker in this repository
abbrev pub MayStep : List RepoPass → ℕ → Txn → Query → ℕ → PinnedRead → Type 0
MayStep ps repo t query number pinned = (r : Repo) (p : RepoPass) → slice_get ps repo ≡ Some p → IsPass r p
    → IsNextStep (as_seen r p) (seat_of p) t query number pinned

-- Lists of passes that grow

-- each list has room for one pass more
abbrev pub HaveRoom : List Passes → Type 0
HaveRoom [] = Unit {0}
HaveRoom (w ∷ ws) = (vec_len w.list < vec_capacity w.list) × HaveRoom ws

-- each list took in the pass at its place
abbrev pub Spread : List Passes → List RepoPass → List Passes → Type 0
Spread [] [] [] = Unit {0}
Spread (v ∷ vs) (p ∷ ps) (w ∷ ws) = ((w.list.items ≡ v.list.items ++ p ∷ []) × (vec_capacity w.list ≡ vec_capacity v.list)) × Spread vs ps ws
Spread [] [] (w ∷ ws) = ⊥
Spread [] (p ∷ ps) ws = ⊥
Spread (v ∷ vs) [] ws = ⊥
Spread (v ∷ vs) (p ∷ ps) [] = ⊥
