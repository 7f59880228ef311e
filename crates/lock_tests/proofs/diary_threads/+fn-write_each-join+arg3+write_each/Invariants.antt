use Rattle.std.proofs.Common.{vec_len}
use Rattle.lock_tests.proofs.diary_threads.+fn-write_each-join+arg3+write_each.Given as goal

abbrev pub decreases-join+arg3 : goal.decreases-join+arg3
decreases-join+arg3 g l = vec_len l.passes

abbrev pub decreases-write_each : goal.decreases-write_each
decreases-write_each g l = vec_len l.passes
