use Rattle.std.proofs.Common.{◌≡◌, ◌<◌, ◌∷◌, rules, arith, ap, sym, ◌∙◌, codes, map}
use Rattle.quad_index.specs.Letters.{letter_byte}
use Rattle.rdf_server.proofs.WordLemmas.{more_orders, named_twice, no_later, no_more, too_many}
use Rattle.rdf_server.proofs.words.+ids_of.Goals.{then-most-eq0-via-then-most-eq0, then-most-eq0-via-else-most-eq0+then-is_named}
use Rattle.rdf_server.proofs.words.+ids_of.Goals as goal

pub returns-then-most-eq0-clause-none : goal.returns-then-most-eq0-clause-none
returns-then-most-eq0-clause-none t c =
    let s = c.in-Some.ensures.some.1 in
    let e = s.1 ∙ ap (λ x. codes "--order" ∷ (map letter_byte c.in-Some.order ∷ x)) (sym (c.past_option-behind.ensures.value _ _ s.0 s.1)) in
    elim c.then-most-eq0.branch [
      | then-most-eq0-via-then-most-eq0 w ↦
          let none : c.args.most ≡ 0 = search rules in
          too_many c.args.words.now c.past_option-behind.result.now c.in-Some.order c.args.most e none
      | then-most-eq0-via-else-most-eq0+then-is_named w ↦
          named_twice c.args.words.now c.past_option-behind.result.now c.in-Some.order c.args.most w.is_named.result e w.is_named.ensures w.if-is_named.true
    ]

pub returns-else-are_names-clause-none : goal.returns-else-are_names-clause-none
returns-else-are_names-clause-none t c = no_more c.args.words.now c.args.most c.are_names.result c.are_names.ensures c.if-are_names.false c.in-None.ensures.none

pub returns-else-is_named-clause-some : goal.returns-else-is_named-clause-some
returns-else-is_named-clause-some t c =
    let s = c.in-Some.ensures.some.1 in
    let e = s.1 ∙ ap (λ x. codes "--order" ∷ (map letter_byte c.in-Some.order ∷ x)) (sym (c.past_option-behind.ensures.value _ _ s.0 s.1)) in
    let some : 0 < c.args.most = search (rules, arith) in
    more_orders c.args.words.now c.past_option-behind.result.now c.in-Some.order c.args.most c.is_named.result c.ids_of.result c.in-Some.ensures.some.0 e some
    c.is_named.ensures c.if-is_named.false c.ids_of.ensures.some

pub returns-else-is_named-clause-none : goal.returns-else-is_named-clause-none
returns-else-is_named-clause-none t c =
    let s = c.in-Some.ensures.some.1 in
    let e = s.1 ∙ ap (λ x. codes "--order" ∷ (map letter_byte c.in-Some.order ∷ x)) (sym (c.past_option-behind.ensures.value _ _ s.0 s.1)) in
    let some : 0 < c.args.most = search (rules, arith) in
    no_later c.args.words.now c.past_option-behind.result.now c.in-Some.order c.args.most c.ids_of.result e some c.ids_of.ensures.none
