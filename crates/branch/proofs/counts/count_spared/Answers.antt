use Rattle.std.proofs.Common.{map, arith}
use Rattle.std.specs.Arc.{arc_value}
use Rattle.branch.proofs.CountLemmas.{spared_is}
use Rattle.branch.proofs.counts.count_spared.Goals as goal

pub overflow_sub-result : goal.overflow_sub-result
overflow_sub-result c =
    let whole = spared_is c.args.pattern.now (map arc_value c.args.layers.now) c.args.base.now.quads in
    omega (arith, whole, c.count.ensures, c.count_matched_in.ensures)

pub returns : goal.returns
returns c =
    let whole = spared_is c.args.pattern.now (map arc_value c.args.layers.now) c.args.base.now.quads in
    omega (arith, whole, c.count.ensures, c.count_matched_in.ensures)
