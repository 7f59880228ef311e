use Rattle.quad_index.specs.Contents.{Arranged, IsKept}
use Rattle.quad_index.proofs.ListLemmas.{each_more, mapped_more}
use Rattle.quad_index.proofs.runs.build.Goals as goal

pub loop-order-preserved : goal.loop-order-preserved
loop-order-preserved c = (
  mapped_more (λ (run : Arranged). run.order) c.loop-order.runs.items c.in_ok-run.run' c.push.new.self.items c.args.orders.now c.loop-order.order-index c.order-item.result
      c.in_ok-push.ensures.items c.loop-order-test.true c.order-item.is c.in_ok-run.ensures.order c.loop-order.invariant.0,
  each_more (λ (run : Arranged). IsKept c.args.codes.now run) c.loop-order.runs.items c.in_ok-run.run' c.push.new.self.items c.in_ok-push.ensures.items c.loop-order.invariant.1 c.in_ok-run.ensures.codes,
)
