-- What contracts say of a shared repository and of its passes.
use Rattle.std.specs.Prelude.{◌≡◌, ℕ, ◌+◌, false, List, [], ◌∷◌, Some}
use Rattle.journal_lock.specs.declared.pass.Pass.{Pass}
use Rattle.journal_lock.specs.Passes.{IsPassOf, fixed_of, has_turn, origin_of, seat_of, seats_of, seen, told_of}
use Rattle.journal.specs.declared.entry.Entry.{Entry}
use Rattle.journal.specs.declared.limits.Limits.{Limits}
use Rattle.iso_txn.specs.Repository.{Repository}
use Rattle.shared_repo.specs.declared.repo.Repo.{Repo}
use Rattle.shared_repo.specs.Lists.{Goes}
use Rattle.shared_repo.specs.States.{IsSound}

abbrev pub RepoPass : Type 0
RepoPass = Pass Repository Entry

-- the limits, which nothing changes
abbrev pub limits_of : Repo → Limits
limits_of repo = (origin_of repo.lock).limits

-- the number of passes that it was made with
abbrev pub passes_of : Repo → ℕ
passes_of repo = seats_of repo.lock

-- the repository with this journal
abbrev pub with_journal : Repo → List Entry → Repository
with_journal repo journal = record { limits = limits_of repo; journal = journal }

-- the repository as far as a pass has seen it
abbrev pub as_seen : Repo → RepoPass → Repository
as_seen repo p = with_journal repo (seen p)

-- It is a pass of this repository that doesn't have the turn. Its list is legal, and the Steps in it name READ_COMMITTED transactions.
abbrev pub IsPass : Repo → RepoPass → Type 0
IsPass repo p = IsPassOf repo.lock p × (has_turn p ≡ false) × IsSound (as_seen repo p)

-- passes of this repository
abbrev pub ArePasses : Repo → List RepoPass → Type 0
ArePasses repo [] = Unit {0}
ArePasses repo (p ∷ ps) = IsPass repo p × ArePasses repo ps

-- passes of this repository with the numbers from k on, which have seen nothing
abbrev pub AreFirst : Repo → ℕ → List RepoPass → Type 0
AreFirst repo k [] = Unit {0}
AreFirst repo k (p ∷ ps) = (IsPass repo p × (seat_of p ≡ k) × (seen p ≡ [])) × AreFirst repo (k + 1) ps

-- the journal begins with the list of each pass, and past that has no entry with its number
abbrev pub EachEnds : List RepoPass → List Entry → Type 0
EachEnds [] journal = Unit {0}
EachEnds (p ∷ ps) journal = Goes (seat_of p) (seen p) journal [] × EachEnds ps journal

-- It is a pass that is left of this repository once that is closed: it doesn't have the turn, and knows the limits.
abbrev pub IsLeft : Repo → RepoPass → Type 0
IsLeft repo p = (has_turn p ≡ false) × (fixed_of p ≡ Some (told_of repo.lock))
