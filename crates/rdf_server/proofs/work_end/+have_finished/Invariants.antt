use Rattle.std.proofs.Common.{length}
use Rattle.rdf_server.proofs.work_end.+have_finished.Given as goal

abbrev pub decreases-have_finished : goal.decreases-have_finished
decreases-have_finished l = length l.ends.now
