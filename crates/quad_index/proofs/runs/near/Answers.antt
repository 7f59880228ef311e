use Rattle.std.proofs.Common.{map}
use Rattle.quad_index.specs.Codes.{arrange_back}
use Rattle.quad_index.proofs.RunLemmas.{near_same}
use Rattle.quad_index.proofs.runs.near.Goals as goal

pub returns : goal.returns
returns c = near_same c.args.bounds.now.0 c.args.bounds.now.1 c.args.codes.now
    (map (arrange_back c.serving-order.result.0) c.serving-order.result.1.now) (map (arrange_back c.serving-order.result.0) c.near.result.now)
    c.serving-order.ensures.same c.near.ensures
