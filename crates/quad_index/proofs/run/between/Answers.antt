use Rattle.std.proofs.Common.{arith}
use Rattle.quad_index.proofs.RunLemmas.{between_is}
use Rattle.quad_index.proofs.run.between.Goals as goal

pub returns : goal.returns
returns c = λ test h. between_is c.args.keys.now c.args.first.now c.args.last.now c.lower-start.result c.upper.result c.max-end.result (omega arith) (omega arith) (omega arith)
    c.lower-start.ensures.below c.upper.ensures.above test h
