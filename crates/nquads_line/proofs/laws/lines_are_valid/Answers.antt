use Rattle.nquads_line.proofs.ValidLemmas.{line_valid}
use Rattle.nquads_line.proofs.laws.lines_are_valid.Goals as goal

pub returns : goal.returns
returns c = line_valid
