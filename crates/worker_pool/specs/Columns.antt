-- The passes of all workers, put together by repository. No contract of a public call cites it.
use Rattle.std.specs.Prelude.{◌≡◌, ℕ, ◌≤◌, List, [], ◌∷◌, ◌++◌, vec_capacity, vec_len}
use Rattle.journal_lock.specs.Passes.{seats_in, seen}
use Rattle.journal.specs.declared.limits.Limits.{Limits}
use Rattle.shared_repo.specs.Passes.{ArePasses, EachEnds, RepoPass, limits_of, passes_of}
use Rattle.shared_repo.specs.declared.repo.Repo.{Repo}
use Rattle.shared_session.specs.declared.passes.Passes.{Passes}
use Rattle.worker_pool.specs.Served.{IsWhole}
use Rattle.worker_pool.specs.declared.house_end.RepoCount.{RepoCount}

abbrev pub head_of : List RepoPass → List RepoPass
head_of [] = []
head_of (p ∷ ps) = p ∷ []

abbrev pub tail_of : List RepoPass → List RepoPass
tail_of [] = []
tail_of (p ∷ ps) = ps

-- the first pass of each worker
abbrev pub heads : List (List RepoPass) → List RepoPass
heads [] = []
heads (row ∷ rows) = head_of row ++ heads rows

-- the others of each
abbrev pub tails : List (List RepoPass) → List (List RepoPass)
tails [] = []
tails (row ∷ rows) = tail_of row ∷ tails rows

-- for each repository a list of these workers' passes of it, in order, with room for so many
abbrev pub AreColumns : ℕ → List (List RepoPass) → List Passes → Type 0
AreColumns room rows [] = Unit {0}
AreColumns room rows (c ∷ cs) = ((c.list.items ≡ heads rows) × (room ≤ vec_capacity c.list)) × AreColumns room (tails rows) cs

-- each list has all passes of the repository at its place, which has these limits
abbrev pub MayClose : Limits → List Repo → List Passes → Type 0
MayClose limits [] [] = Unit {0}
MayClose limits (r ∷ rs) (c ∷ cs) = (ArePasses r c.list.items × (vec_len c.list ≡ passes_of r) × (limits_of r ≡ limits)) × MayClose limits rs cs
MayClose limits [] (c ∷ cs) = ⊥
MayClose limits (r ∷ rs) [] = ⊥

-- A repository was closed with these passes: the closing pass has seen its whole journal, which begins with the list of each, with no further entry of its seat.
pub record IsClosed (limits : Limits) (ps : List RepoPass) (q : RepoPass) (count : RepoCount) : Type 0 where
  pub ends : EachEnds ps (seen q)
  pub whole : IsWhole limits (seats_in ps) (seen q) count

-- each repository was closed with the passes at its place
abbrev pub AreClosed : Limits → List Passes → List RepoPass → List RepoCount → Type 0
AreClosed limits [] [] [] = Unit {0}
AreClosed limits (c ∷ cs) (q ∷ qs) (n ∷ ns) = IsClosed limits c.list.items q n × AreClosed limits cs qs ns
AreClosed limits [] [] (n ∷ ns) = ⊥
AreClosed limits [] (q ∷ qs) ns = ⊥
AreClosed limits (c ∷ cs) [] ns = ⊥
AreClosed limits (c ∷ cs) (q ∷ qs) [] = ⊥
