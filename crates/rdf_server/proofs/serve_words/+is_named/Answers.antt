use Rattle.std.proofs.Common.{◌∷◌, true≢false, sym, ap, ◌∙◌}
use Rattle.rdf_server.specs.ServeWords.{kind_of, kind_word, value_word}
use Rattle.rdf_server.proofs.ServeLemmas.{told_behind, told_front, told_none}
use Rattle.rdf_server.proofs.serve_words.+is_named.Goals as goal

pub returns-in-None : goal.returns-in-None
returns-in-None t c = told_none c.args.words.now c.args.order c.in-None.ensures.none

pub returns-then-names_order : goal.returns-then-names_order
returns-then-names_order t c =
    let s = c.in-Some.ensures.some in
    told_front c.args.words.now s.1.0 c.args.order c.in-Some.option c.names_order.result c.if-names_order.true s.0 s.1.1 (c.names_order.ensures.0 c.if-names_order.true)

pub returns-else-names_order : goal.returns-else-names_order
returns-else-names_order t c =
    let s = c.in-Some.ensures.some in
    let e = s.1.1 ∙ ap (λ x. kind_word (kind_of c.in-Some.option) ∷ (value_word c.in-Some.option ∷ x)) (sym (c.past_option.ensures.value _ _ s.1.0 s.1.1)) in
    told_behind c.args.words.now c.past_option.result.now c.args.order c.in-Some.option c.is_named.result s.0 e
    (λ same. true≢false (sym (c.names_order.ensures.1 same) ∙ c.if-names_order.false)) c.is_named.ensures
