use Rattle.std.proofs.Common.{◌≡◌, map, take}
use Rattle.std.specs.List.{All}
use Rattle.quad_index.specs.Contents.{Arranged, IsKept}
use Rattle.quad_index.proofs.runs.build.Given as goal

abbrev pub invariant-loop-order : goal.invariant-loop-order
invariant-loop-order l = (map (λ (run : Arranged). run.order) l.runs.items ≡ take l.order-index l.orders) × All (λ (run : Arranged). IsKept l.codes run) l.runs.items
