use Rattle.nquads_line.proofs.WrittenLemmas.{terms_again}
use Rattle.nquads_line.proofs.laws.terms_read_again.Goals as goal

pub returns : goal.returns
returns c = terms_again
