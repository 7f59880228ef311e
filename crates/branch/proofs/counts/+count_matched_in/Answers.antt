use Rattle.std.proofs.Common.{◌+◌, ◌≤◌, ◌&&◌, not, List, map, sym, ap, ◌∙◌, arith}
use Rattle.std.specs.Arc.{arc_value}
use Rattle.std.specs.List.{count_by}
use Rattle.rdf_term.specs.Matching.{matches}
use Rattle.rdf_term.specs.Statement.{Statement}
use Rattle.rdf_term.specs.declared.pattern.Pattern.{Pattern}
use Rattle.change_set.specs.declared.change.Change.{Change}
use Rattle.change_set.specs.Deltas.{removed_patterns}
use Rattle.branch.specs.Counts.{is_matched, is_matched_in}
use Rattle.branch.proofs.CountLemmas.{matched_layer, none_matched_in, at_most}
use Rattle.branch.proofs.LayerLemmas.{map_last}
use Rattle.branch.proofs.counts.+count_matched_in.Goals as goal

pub returns-in-Some : goal.returns-in-Some
returns-in-Some t c =
    let below = map arc_value c.in-Some.below.now in
    let layer = arc_value c.in-Some.layer.now in
    let quads = c.args.base.now.quads in
    let p = c.args.pattern.now in
    (λ i. c.count_matched.ensures i + c.count_matched_in.ensures i)
    ∙ ap (λ (removed : List Pattern). count_by (λ (q : Statement). matches p q && (is_matched removed q && not (is_matched_in below q))) quads + count_by (λ (q : Statement). matches p q && is_matched_in below q) quads)
    (c.patterns.ensures ∙ ap removed_patterns c.deref.ensures)
    ∙ matched_layer p layer below quads
    ∙ ap (λ (layers : List (List Change)). count_by (λ (q : Statement). matches p q && is_matched_in layers q) quads)
    (sym (map_last arc_value c.args.layers.now c.in-Some.below.now c.in-Some.layer.now c.in-Some.ensures.cases.0))

pub overflow_add-result : goal.overflow_add-result
overflow_add-result t c =
    let most : c.count_matched.result + c.count_matched_in.result ≤ c.len-quads.result = at_most _ c.args.base.now.quads _ _ (returns-in-Some t c) c.len-quads.ensures.len in
    omega (arith, most)

pub returns-in-None : goal.returns-in-None
returns-in-None t c = none_matched_in arc_value c.args.pattern.now c.args.layers.now c.args.base.now.quads c.in-None.ensures.cases
