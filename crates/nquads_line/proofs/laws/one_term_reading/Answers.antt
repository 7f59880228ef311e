use Rattle.nquads_line.proofs.LineLemmas.{term_once}
use Rattle.nquads_line.proofs.laws.one_term_reading.Goals as goal

pub returns : goal.returns
returns c = term_once
