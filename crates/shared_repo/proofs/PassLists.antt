-- Lists of passes of a repository, with one at the end.
use Rattle.std.proofs.Common.{◌≡◌, ℕ, ◌+◌, List, [], ◌∷◌, ◌++◌}
use Rattle.shared_repo.specs.declared.repo.Repo.{Repo}
use Rattle.shared_repo.specs.Passes.{AreFirst, ArePasses, IsPass, RepoPass}

pub passes_parts : (repo : Repo) (ps : List RepoPass) (p : RepoPass) → ArePasses repo (ps ++ p ∷ []) → ArePasses repo ps × IsPass repo p
passes_parts repo [] p h = (tt, h.0)
passes_parts repo (q ∷ qs) p h = let r = passes_parts repo qs p h.1 in ((h.0, r.0), r.1)

pub passes_more : (repo : Repo) (ps : List RepoPass) (p : RepoPass) → ArePasses repo ps → IsPass repo p → ArePasses repo (ps ++ p ∷ [])
passes_more repo [] p h is = (is, tt)
passes_more repo (q ∷ qs) p h is = (h.0, passes_more repo qs p h.1 is)

pub passes_first : (repo : Repo) (k : ℕ) (ps : List RepoPass) → AreFirst repo k ps → ArePasses repo ps
passes_first repo k [] h = tt
passes_first repo k (p ∷ ps) h = (h.0.0, passes_first repo (k + 1) ps h.1)
