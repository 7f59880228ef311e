use Rattle.std.proofs.Common.{vec_len}
use Rattle.bench_shared.proofs.crew.+fn-work_each-join+arg3+work_each.Given as goal

abbrev pub decreases-join+arg3 : goal.decreases-join+arg3
decreases-join+arg3 g l = vec_len l.passes

abbrev pub decreases-work_each : goal.decreases-work_each
decreases-work_each g l = vec_len l.passes
