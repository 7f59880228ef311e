use Rattle.std.proofs.Common.{true≢false, sym, ◌∙◌}
use Rattle.rdf_server.proofs.WordLemmas.{named_behind, named_front, named_none, told_behind}
use Rattle.rdf_server.proofs.words.+is_named.Goals as goal

pub returns-in-None : goal.returns-in-None
returns-in-None t c = named_none c.args.words.now c.args.order c.in-None.ensures.none

pub returns-then-eq : goal.returns-then-eq
returns-then-eq t c =
    let s = c.in-Some.ensures.some.1 in
    named_front c.args.words.now c.args.order c.in-Some.other s.0 c.eq.result c.if-eq.true s.1 (c.eq.ensures.same.0 c.if-eq.true)

pub returns-else-eq : goal.returns-else-eq
returns-else-eq t c =
    let s = c.in-Some.ensures.some.1 in
    named_behind c.args.words.now c.args.order c.in-Some.other s.0 c.is_named.result s.1
    (λ same. true≢false (sym (c.eq.ensures.same.1 same) ∙ c.if-eq.false))
    (told_behind c.past_option.result.now s.0 c.args.order c.is_named.result (c.past_option.ensures.value _ _ s.0 s.1) c.is_named.ensures)
