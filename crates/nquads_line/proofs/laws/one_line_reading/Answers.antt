use Rattle.nquads_line.proofs.LineLemmas.{line_once}
use Rattle.nquads_line.proofs.laws.one_line_reading.Goals as goal

pub returns : goal.returns
returns c = line_once
