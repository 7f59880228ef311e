use Rattle.std.proofs.Common.{◌<◌, length}
use Rattle.bgp_eval.proofs.plan.best.Given as goal

abbrev pub invariant-loop-at : goal.invariant-loop-at
invariant-loop-at l = l.place < length l.steps
