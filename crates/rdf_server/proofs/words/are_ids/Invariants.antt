use Rattle.std.proofs.Common.{length}
use Rattle.rdf_server.specs.Words.{AreIds}
use Rattle.rdf_server.proofs.words.are_ids.Given as goal

abbrev pub invariant-loop-word : goal.invariant-loop-word
invariant-loop-word l = (AreIds l.left → AreIds l.words) × (AreIds l.words → AreIds l.left)

abbrev pub decreases-loop-word : goal.decreases-loop-word
decreases-loop-word l = length l.left
