-- The end of the program `serve`.
use Rattle.std.proofs.Common.{◌≡◌, ℕ, Bool, List, subst}
use Rattle.worker_pool.specs.Served.{DoorView}
use Rattle.worker_pool.specs.declared.house_end.HouseEnd.{HouseEnd}
use Rattle.rdf_server.specs.Serving.{IsServeRun}

-- a run by another word for its IDs and its end
pub run_for : {D : Type 0} (out : D → Bool) (tells : D → DoorView) (ids ids' : List (List ℕ)) (doors doors' : List D) (end end' : HouseEnd) → ids ≡ ids' → end ≡ end'
    → IsServeRun out tells ids doors doors' end → IsServeRun out tells ids' doors doors' end'
run_for out tells ids ids' doors doors' end end' same ends run =
    subst (λ (x : HouseEnd). IsServeRun out tells ids' doors doors' x) ends (subst (λ (x : List (List ℕ)). IsServeRun out tells x doors doors' end) same run)
