use Rattle.std.proofs.Common.{◌≡◌, take}
use Rattle.bgp_eval.proofs.search.whole.Given as goal

abbrev pub invariant-loop-value : goal.invariant-loop-value
invariant-loop-value l = l.values ≡ take l.value-index l.row
