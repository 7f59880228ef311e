use Rattle.bgp_eval.proofs.ShapeLemmas.{triples_in_more}
use Rattle.bgp_eval.proofs.construct.add_triples.Goals as goal

pub loop-shape-preserved : goal.loop-shape-preserved
loop-shape-preserved c =
    triples_in_more c.args.shapes.now c.args.row.now c.loop-shape.shape-index c.shape-item.result c.args.quads.now c.loop-shape.quads c.add.new.quads c.in_ok-triple.field-0
    c.loop-shape-test.true c.shape-item.is c.loop-shape.invariant c.in_ok-triple.ensures c.in_ok-add.ensures
