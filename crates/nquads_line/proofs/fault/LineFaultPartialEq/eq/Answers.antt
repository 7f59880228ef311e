use Rattle.std.proofs.Common.{rules}
use Rattle.nquads_line.proofs.FaultLemmas.{same_line_faults}
use Rattle.nquads_line.proofs.fault.LineFaultPartialEq.eq.Goals as goal

pub returns-clause-same : goal.returns-clause-same
returns-clause-same c = same_line_faults _ _ _ (search rules)
