use Rattle.std.proofs.Common.{◌≡◌, map, take}
use Rattle.bgp_eval.specs.Shapes.{shape_of}
use Rattle.bgp_eval.proofs.construct.shapes.Given as goal

abbrev pub invariant-loop-pattern : goal.invariant-loop-pattern
invariant-loop-pattern l = l.shapes.items ≡ map (shape_of l.names) (take l.pattern-index l.template)
