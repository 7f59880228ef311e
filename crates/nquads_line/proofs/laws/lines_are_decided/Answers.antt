use Rattle.nquads_line.proofs.LineLemmas.{line_or_none}
use Rattle.nquads_line.proofs.laws.lines_are_decided.Goals as goal

pub returns : goal.returns
returns c = line_or_none
