use Rattle.std.proofs.Common.{◌∷◌, ap, sym, subst, ◌∙◌}
use Rattle.rdf_server.specs.ServeWords.{kind_of, kind_word, value_word}
use Rattle.rdf_server.proofs.ServeParts.{Left, left_last, left_order, left_other}
use Rattle.rdf_server.proofs.serve_words.named_orders.Goals.{in-Order+in_ok-add_to, in_default-option}
use Rattle.rdf_server.proofs.serve_words.named_orders.Goals as goal

pub loop-option-preserved : goal.loop-option-preserved
loop-option-preserved c =
    let s = c.in-Some.ensures.some in
    let e = s.1.1 ∙ ap (λ x. kind_word (kind_of c.in-Some.option) ∷ (value_word c.in-Some.option ∷ x)) (sym (c.past_option-left.ensures.value _ _ s.1.0 s.1.1)) in
    elim c.match-option.branch [
      | in-Order+in_ok-add_to w ↦
          left_order c.args.words.now c.loop-option.left.now c.past_option-left.result.now c.loop-option.orders c.match-option.orders c.in-Some.option w.in-Order.order w.in_ok-add_to.field-0
          w.in-Order.is w.in_ok-add_to.ensures.refused (w.orders-is ∙ w.in_ok-add_to.ensures.orders) s.0 e c.loop-option.invariant
      | in_default-option w ↦
          subst (Left c.args.words.now c.past_option-left.result.now) (sym w.orders-is)
          (left_other c.args.words.now c.loop-option.left.now c.past_option-left.result.now c.loop-option.orders c.in-Some.option w.in_default-option.not-Order s.0 e c.loop-option.invariant)
    ]

pub returns : goal.returns
returns c = left_last c.args.words.now c.loop-option.left.now c.loop-option.orders c.in_default.ensures.none c.loop-option.invariant
