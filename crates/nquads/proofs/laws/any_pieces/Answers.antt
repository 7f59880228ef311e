use Rattle.nquads.proofs.DocumentLemmas.{any_course}
use Rattle.nquads.proofs.laws.any_pieces.Goals as goal

pub returns : goal.returns
returns c = any_course
