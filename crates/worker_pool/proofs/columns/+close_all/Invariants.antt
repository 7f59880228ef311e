use Rattle.std.proofs.Common.{vec_len}
use Rattle.worker_pool.proofs.columns.+close_all.Given as goal

abbrev pub decreases-close_all : goal.decreases-close_all
decreases-close_all l = vec_len l.repos.now
