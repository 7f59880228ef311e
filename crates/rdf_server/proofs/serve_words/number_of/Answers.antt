use Rattle.std.proofs.Common.{◌<◌, ◌^◌, arith, rules}
use Rattle.rdf_server.proofs.ServeLemmas.{is_number, not_more, not_zero, number_is}
use Rattle.rdf_server.proofs.serve_words.number_of.Goals as goal

pub returns-in_default-clause-none : goal.returns-in_default-clause-none
returns-in_default-clause-none c = λ n some few same.
    let small : n < 2 ^ 64 = omega (arith, few, c.ranges.most.fits) in
    c.in_default.ensures.none n small (is_number c.args.word.now c.as_str.result.now n c.as_str.ensures small same)

pub returns-then-number-eq0-clause-none : goal.returns-then-number-eq0-clause-none
returns-then-number-eq0-clause-none c = λ n some few same.
    let small : n < 2 ^ 64 = omega (arith, few, c.ranges.most.fits) in
    not_zero c.args.word.now c.as_str.result.now c.in-Some.number c.as_str.ensures c.in-Some.ensures.some (search (rules, arith)) n small some same

pub returns-then-number-most-clause-none : goal.returns-then-number-most-clause-none
returns-then-number-most-clause-none c = λ n some few same.
    let small : n < 2 ^ 64 = omega (arith, few, c.ranges.most.fits) in
    not_more c.args.word.now c.as_str.result.now c.in-Some.number c.args.most c.as_str.ensures c.in-Some.ensures.small c.in-Some.ensures.some (search (rules, arith)) n small few same

pub returns-clause-some : goal.returns-clause-some
returns-clause-some c = number_is c.args.word.now c.as_str.result.now c.in-Some.number c.as_str.ensures c.in-Some.ensures.small c.in-Some.ensures.some
