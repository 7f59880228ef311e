use Rattle.std.proofs.Common.{◌≡◌, replicate, None}
use Rattle.bgp_eval.proofs.answer.unbound.Given as goal

abbrev pub invariant-loop : goal.invariant-loop
invariant-loop l = l.row.items ≡ replicate l.counter None
