use Rattle.std.proofs.Common.{rules}
use Rattle.nquads.proofs.FaultLemmas.{same_faults}
use Rattle.nquads.proofs.fault.DataFaultPartialEq.eq.Goals as goal

pub returns-clause-same : goal.returns-clause-same
returns-clause-same c = same_faults _ _ _ (search rules)
