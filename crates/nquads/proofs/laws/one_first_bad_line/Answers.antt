use Rattle.nquads.proofs.DocumentLemmas.{first_bad_once}
use Rattle.nquads.proofs.laws.one_first_bad_line.Goals as goal

pub returns : goal.returns
returns c = first_bad_once
