use Rattle.std.proofs.Common.{arith}
use Rattle.nquads_line.proofs.ByteLemmas.{length-graph}
use Rattle.nquads_line.proofs.lengths.graph_bytes.Goals as goal

pub returns-in-Named : goal.returns-in-Named
returns-in-Named c = rw c.in-Named.is (omega (arith, length-graph c.in-Named.name))
