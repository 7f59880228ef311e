use Rattle.std.proofs.Common.{◌∷◌, ap, sym, ◌∙◌, codes, map}
use Rattle.quad_index.specs.Letters.{letter_byte}
use Rattle.rdf_server.proofs.WordLemmas.{orders_all, orders_step}
use Rattle.rdf_server.proofs.words.named_orders.Goals as goal

pub loop-order-preserved : goal.loop-order-preserved
loop-order-preserved c = λ orders ids o names.
    let s = c.in-Some.ensures.some.1 in
    let e = s.1 ∙ ap (λ x. codes "--order" ∷ (map letter_byte c.in-Some.order ∷ x)) (sym (c.past_option-left.ensures.value _ _ s.0 s.1)) in
    orders_step c.args.words.now c.loop-order.left.now c.past_option-left.result.now c.loop-order.orders c.add_to.new.orders c.in-Some.order c.in_ok-add_to.field-0
    c.in_ok-add_to.ensures.refused c.in_ok-add_to.ensures.orders e orders ids o names (c.loop-order.invariant orders ids o names)

pub returns : goal.returns
returns c = λ orders ids o names. orders_all c.args.words.now c.loop-order.left.now c.loop-order.orders c.in_default.ensures.none orders ids (c.loop-order.invariant orders ids o names)
