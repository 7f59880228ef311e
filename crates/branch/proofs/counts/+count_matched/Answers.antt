use Rattle.std.proofs.Common.{◌+◌, ◌≤◌, ◌&&◌, not, List, map, sym, ap, ◌∙◌, arith}
use Rattle.std.specs.Arc.{arc_value}
use Rattle.std.specs.List.{count_by}
use Rattle.rdf_term.specs.Matching.{matches}
use Rattle.rdf_term.specs.Statement.{Statement}
use Rattle.rdf_term.specs.declared.pattern.Pattern.{Pattern}
use Rattle.branch.specs.Counts.{is_matched, is_matched_in}
use Rattle.branch.proofs.CountLemmas.{matched_last, none_matched, at_most}
use Rattle.branch.proofs.counts.+count_matched.Goals as goal

pub returns-in-Some : goal.returns-in-Some
returns-in-Some t c =
    let below = map arc_value c.args.below.now in
    let quads = c.args.base.now.quads in
    (λ i. c.count_both.ensures i + c.count_matched.ensures i)
    ∙ matched_last c.args.pattern.now c.in-Some.last.now c.in-Some.before.now below quads
    ∙ ap (λ (removed : List Pattern). count_by (λ (q : Statement). matches c.args.pattern.now q && (is_matched removed q && not (is_matched_in below q))) quads) (sym c.in-Some.ensures.cases.0)

pub overflow_add-result : goal.overflow_add-result
overflow_add-result t c =
    let most : c.count_both.result + c.count_matched.result ≤ c.len-quads.result = at_most _ c.args.base.now.quads _ _ (returns-in-Some t c) c.len-quads.ensures.len in
    omega (arith, most)

pub returns-in-None : goal.returns-in-None
returns-in-None t c = none_matched c.args.pattern.now c.args.removed.now (map arc_value c.args.below.now) c.args.base.now.quads c.in-None.ensures.cases
