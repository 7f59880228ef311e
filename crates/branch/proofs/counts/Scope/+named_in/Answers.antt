use Rattle.std.proofs.Common.{◌≡◌, ◌+◌, ◌-◌, ◌^◌, ◌&&◌, not, min, List, map, sym, ap, ◌∙◌, arith}
use Rattle.std.specs.Arc.{arc_value}
use Rattle.std.specs.List.{count_by}
use Rattle.rdf_term.specs.Matching.{matches}
use Rattle.rdf_term.specs.Statement.{Statement}
use Rattle.quad_index.specs.Contents.{is_in}
use Rattle.change_set.specs.declared.change.Change.{Change}
use Rattle.change_set.specs.Content.{named_quads}
use Rattle.branch.specs.Counts.{is_named_in, counted_quads}
use Rattle.branch.proofs.CountLemmas.{named_layer, none_named_in, still_sum, small_min}
use Rattle.branch.proofs.LayerLemmas.{map_last}
use Rattle.branch.proofs.counts.Scope.+named_in.Goals as goal

pub returns-in-Some : goal.returns-in-Some
returns-in-Some t c =
    let below = map arc_value c.in-Some.below.now in
    let layer = arc_value c.in-Some.layer.now in
    let quads = counted_quads c.args.self.now in
    let p = c.args.self.now.pattern.now in
    let here = count_by (λ (q : Statement). matches p q && (is_in q (named_quads layer) && not (is_named_in below q))) quads in
    let lower = count_by (λ (q : Statement). matches p q && is_named_in below q) quads in
    let here_is : c.named_by.result ≡ here = c.named_by.ensures
    ∙ ap (λ (changes : List Change). count_by (λ (q : Statement). matches p q && (is_in q (named_quads changes) && not (is_named_in below q))) quads) c.deref.ensures in
    c.saturating_add.ensures
    ∙ (λ i. min (here_is i + c.named_in.ensures i) (2 ^ 64 - 1))
    ∙ still_sum here lower (2 ^ 64 - 1)
    ∙ ap (λ n. min n (2 ^ 64 - 1)) (named_layer p layer below quads
    ∙ ap (λ (layers : List (List Change)). count_by (λ (q : Statement). matches p q && is_named_in layers q) quads)
    (sym (map_last arc_value c.args.layers.now c.in-Some.below.now c.in-Some.layer.now c.in-Some.ensures.cases.0)))

pub returns-in-None : goal.returns-in-None
returns-in-None t c =
    sym (small_min 0 (2 ^ 64 - 1) (omega arith))
    ∙ ap (λ n. min n (2 ^ 64 - 1)) (none_named_in arc_value c.args.self.now.pattern.now c.args.layers.now (counted_quads c.args.self.now) c.in-None.ensures.cases)
