use Rattle.std.proofs.Common.{◌≡◌, ◌++◌, map, take}
use Rattle.std.specs.Arc.{arc_value}
use Rattle.branch.proofs.layers.share_onto.Given as goal

abbrev pub invariant-loop-layer : goal.invariant-loop-layer
invariant-loop-layer l = map arc_value l.shared.items ≡ map arc_value l.fn.below.items ++ map arc_value (take l.layer-index l.layers)
