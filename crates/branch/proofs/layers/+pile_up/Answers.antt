use Rattle.std.proofs.Common.{List, ◌++◌, map, subst}
use Rattle.std.specs.Arc.{arc_value}
use Rattle.change_set.specs.declared.change.Change.{Change}
use Rattle.change_set.specs.Content.{SameChanges}
use Rattle.branch.specs.Bounds.{IsRaised}
use Rattle.branch.proofs.BoundLemmas.{raised_merged}
use Rattle.branch.proofs.LayerLemmas.{map_last}
use Rattle.branch.proofs.layers.+pile_up.Goals as goal

pub returns-in_ok-lower-in-Some : goal.returns-in_ok-lower-in-Some
returns-in_ok-lower-in-Some t c =
    let layers = map arc_value c.args.layers.now in
    let below = map arc_value c.in-Some.below.now in
    let layer = arc_value c.in-Some.layer.now in
    let set = c.args.set.value in
    let merged = c.in_ok-merged-in-Some.merged in
    let lower = c.in_ok-lower-in-Some.lower in
    let same : SameChanges merged (layer ++ set) =
    subst (λ (l : List Change). SameChanges merged (l ++ set)) c.deref-in-Some-2.ensures
    (subst (λ (s : List Change). SameChanges merged (c.deref-in-Some-2.result.now ++ s)) c.deref-in-Some-3.ensures c.in_ok-merged-in-Some.ensures) in
    let rest : IsRaised below merged lower.below lower.top.value =
    subst (λ (s : List Change). IsRaised below s lower.below lower.top.value) c.in_ok-top-in-Some.ensures.ok c.in_ok-lower-in-Some.ensures in
    raised_merged layers below layer set merged lower.top.value lower.below
    (map_last arc_value c.args.layers.now c.in-Some.below.now c.in-Some.layer.now c.in-Some.ensures.cases.0) same rest
