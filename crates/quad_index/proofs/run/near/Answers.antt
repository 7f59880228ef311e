use Rattle.quad_index.proofs.RunLemmas.{near_is}
use Rattle.quad_index.proofs.run.near.Goals as goal

pub returns : goal.returns
returns c = near_is c.args.order.now c.args.keys.now c.between.result.now c.args.low.now c.args.high.now c.arrange-first.result c.arrange-last.result
    c.requires c.arrange-first.ensures c.arrange-last.ensures c.between.ensures
