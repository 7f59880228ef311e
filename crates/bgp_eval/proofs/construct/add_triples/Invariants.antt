use Rattle.std.proofs.Common.{◌≡◌, ◌++◌, take}
use Rattle.bgp_eval.specs.Shapes.{triples_in}
use Rattle.bgp_eval.proofs.construct.add_triples.Given as goal

abbrev pub invariant-loop-shape : goal.invariant-loop-shape
invariant-loop-shape l = l.quads ≡ l.fn.quads ++ triples_in (take l.shape-index l.shapes) l.row
