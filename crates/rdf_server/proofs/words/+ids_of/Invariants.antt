use Rattle.std.proofs.Common.{length}
use Rattle.rdf_server.proofs.words.+ids_of.Given as goal

abbrev pub decreases-ids_of : goal.decreases-ids_of
decreases-ids_of l = length l.words.now
