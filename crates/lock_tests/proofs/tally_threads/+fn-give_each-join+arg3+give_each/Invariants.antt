use Rattle.std.proofs.Common.{vec_len}
use Rattle.lock_tests.proofs.tally_threads.+fn-give_each-join+arg3+give_each.Given as goal

abbrev pub decreases-join+arg3 : goal.decreases-join+arg3
decreases-join+arg3 g l = vec_len l.passes

abbrev pub decreases-give_each : goal.decreases-give_each
decreases-give_each g l = vec_len l.passes
