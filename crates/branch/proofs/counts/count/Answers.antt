use Rattle.std.proofs.Common.{◌-◌, ◌^◌, map, ◌∙◌, arith}
use Rattle.std.specs.Arc.{arc_value}
use Rattle.branch.proofs.CountLemmas.{sorted-spared, lost_is, gained_is}
use Rattle.branch.proofs.LayerLemmas.{sorted-layered}
use Rattle.branch.proofs.counts.count.Goals as goal

pub named_in-requires : goal.named_in-requires
named_in-requires c = sorted-spared c.args.base.now.quads (map arc_value c.args.layers.now) c.len-quads.ensures.ascending

pub named_in-requires-2 : goal.named_in-requires-2
named_in-requires-2 c = sorted-layered c.args.base.now.quads (map arc_value c.args.layers.now) c.len-quads.ensures.ascending

pub overflow_sub-spared : goal.overflow_sub-spared
overflow_sub-spared c =
    lost_is c.args.pattern.now c.args.base.now.quads (map arc_value c.args.layers.now) c.count_spared-spared.result c.named_in.result c.count_spared-spared.ensures c.named_in.ensures

pub returns : goal.returns
returns c =
    c.saturating_add.ensures
    ∙ gained_is c.args.pattern.now c.args.base.now.quads (map arc_value c.args.layers.now) c.len-quads.ensures.ascending
    c.count_spared-spared.result c.named_in.result c.named_in-2.result (2 ^ 64 - 1) (omega arith) c.count_spared-spared.ensures c.named_in.ensures c.named_in-2.ensures
