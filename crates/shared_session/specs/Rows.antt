-- The passes of the workers while a house is made. No contract of a public call cites it.
use Rattle.std.specs.Prelude.{ℕ, ◌+◌, ◌≤◌, List, [], ◌∷◌, vec_capacity}
use Rattle.shared_repo.specs.declared.repo.Repo.{Repo}
use Rattle.shared_session.specs.Houses.{AreNew, AreOf}
use Rattle.shared_session.specs.declared.passes.Passes.{Passes}

-- for each worker the passes of these repositories, which are new, with the seat numbers from k on, and room for so many
abbrev pub AreRows : List Repo → ℕ → ℕ → List Passes → Type 0
AreRows rs k room [] = Unit {0}
AreRows rs k room (w ∷ ws) = (AreOf rs w.list.items × AreNew k w.list.items × (room ≤ vec_capacity w.list)) × AreRows rs (k + 1) room ws
