use Rattle.std.proofs.Common.{◌≡◌, take}
use Rattle.bgp_eval.specs.Ways.{columns}
use Rattle.bgp_eval.proofs.part.columns.Given as goal

abbrev pub invariant-loop-part : goal.invariant-loop-part
invariant-loop-part l = l.values ≡ columns (take l.part-index l.parts) l.row
