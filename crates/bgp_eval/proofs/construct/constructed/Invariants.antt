use Rattle.std.proofs.Common.{◌≡◌, take}
use Rattle.std.specs.List.{flat_map}
use Rattle.bgp_eval.specs.Shapes.{triples_in}
use Rattle.bgp_eval.proofs.construct.constructed.Given as goal

abbrev pub invariant-loop-row : goal.invariant-loop-row
invariant-loop-row l = l.quads ≡ flat_map (triples_in l.shapes.items) (take l.row-index l.rows)
