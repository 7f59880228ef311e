use Rattle.nquads_line.proofs.WrittenLemmas.{quads_again}
use Rattle.nquads_line.proofs.laws.quads_read_again.Goals as goal

pub returns : goal.returns
returns c = quads_again
