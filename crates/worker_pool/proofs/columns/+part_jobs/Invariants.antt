use Rattle.std.proofs.Common.{vec_len}
use Rattle.worker_pool.proofs.columns.+part_jobs.Given as goal

abbrev pub decreases-part_jobs : goal.decreases-part_jobs
decreases-part_jobs g l = vec_len l.jobs.now
