use Rattle.nquads_line.proofs.WrittenLemmas.{term_scalars}
use Rattle.nquads_line.proofs.laws.texts_are_scalars.Goals as goal

pub returns : goal.returns
returns c = term_scalars
