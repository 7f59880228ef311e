use Rattle.std.proofs.Common.{◌≡◌, map, take}
use Rattle.quad_index.specs.Carry.{carry}
use Rattle.quad_index.proofs.carry.carried.Given as goal

abbrev pub invariant-loop-code : goal.invariant-loop-code
invariant-loop-code l = l.carried.items ≡ map (carry l.ranks.items) (take l.code-index l.codes)
