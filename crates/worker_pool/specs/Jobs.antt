-- The jobs of a house: a worker's door and passes. No contract of a public call cites it.
use Rattle.std.specs.Prelude.{◌≡◌, Bool, false, IsSome, List, [], ◌∷◌, Option, Some, map}
use Rattle.session.specs.Turns.{ground}
use Rattle.shared_repo.specs.Passes.{RepoPass}
use Rattle.shared_session.specs.Houses.{House, IsOf, journals, numbers}
use Rattle.shared_session.specs.declared.passes.Passes.{Passes}
use Rattle.worker_pool.specs.Served.{AtDoor, DoorView}
use Rattle.worker_pool.specs.declared.door_end.DoorEnd.{DoorEnd}
use Rattle.worker_pool.specs.declared.jobs.Job.{Job}

module _ {D : Type 0} (out : D → Bool) where
  -- the job may be done
  abbrev pub IsReady : House → Job D → Type 0
  IsReady house j = IsOf house j.passes × (out j.door ≡ false)

module _ {D : Type 0} (out : D → Bool) (tells : D → DoorView) where
  -- the job was done, by the journals as its worker has seen them
  abbrev pub IsDone : House → Job D → Job D → Type 0
  IsDone house j k = IsOf house k.passes × (numbers k.passes ≡ numbers j.passes) × (out k.door ≡ false) × (end : DoorEnd) × (k.end ≡ Some end)
      × AtDoor (ground house.names house.limits (journals k.passes) (numbers j.passes)) (journals j.passes) (tells j.door) (tells k.door) end

  abbrev pub AreDone : House → List (Job D) → List (Job D) → Type 0
  AreDone house [] [] = Unit {0}
  AreDone house (j ∷ js) (k ∷ ks) = IsDone house j k × AreDone house js ks
  AreDone house [] (k ∷ ks) = ⊥
  AreDone house (j ∷ js) [] = ⊥

module _ {D : Type 0} where
  -- the jobs of these doors and passes, in order
  abbrev pub AreJobs : List D → List Passes → List (Job D) → Type 0
  AreJobs [] [] [] = Unit {0}
  AreJobs (d ∷ ds) (p ∷ ps) (j ∷ js) = ((j.door ≡ d) × (j.passes ≡ p)) × AreJobs ds ps js
  AreJobs [] [] (j ∷ js) = ⊥
  AreJobs [] (p ∷ ps) js = ⊥
  AreJobs (d ∷ ds) [] js = ⊥
  AreJobs (d ∷ ds) (p ∷ ps) [] = ⊥

  -- the doors and the ends of these jobs, in order
  abbrev pub AreParted : List (Job D) → List D → List DoorEnd → Type 0
  AreParted [] [] [] = Unit {0}
  AreParted (j ∷ js) (d ∷ ds) (e ∷ es) = ((d ≡ j.door) × (j.end ≡ Some e)) × AreParted js ds es
  AreParted [] [] (e ∷ es) = ⊥
  AreParted [] (d ∷ ds) es = ⊥
  AreParted (j ∷ js) [] es = ⊥
  AreParted (j ∷ js) (d ∷ ds) [] = ⊥

  -- these jobs have ended, with passes of this house
  abbrev pub HaveEnded : House → List (Job D) → Type 0
  HaveEnded house [] = Unit {0}
  HaveEnded house (j ∷ js) = (IsOf house j.passes × IsSome j.end) × HaveEnded house js

  -- the passes of each job
  abbrev pub rows_of : List (Job D) → List (List RepoPass)
  rows_of js = map (λ (j : Job D). j.passes.list.items) js
