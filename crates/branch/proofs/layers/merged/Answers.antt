use Rattle.std.proofs.Common.{◌∙◌, ◌++◌, List, map, append-nil, subst, sym, ap}
use Rattle.std.specs.Arc.{arc_value}
use Rattle.change_set.specs.declared.change.Change.{Change}
use Rattle.change_set.specs.Content.{SameChanges}
use Rattle.change_set.proofs.Effects.{SameChanges-refl}
use Rattle.branch.specs.Layers.{changes_in}
use Rattle.branch.proofs.LayerLemmas.{map_last}
use Rattle.branch.proofs.FoldLemmas.{merged_more, merged_whole}
use Rattle.branch.proofs.layers.merged.Goals as goal

pub loop-newest-init : goal.loop-newest-init
loop-newest-init c =
    let all = changes_in (map arc_value c.args.layers.now) in
    subst (λ (changes : List Change). SameChanges changes all) (sym (ap (λ (set : List Change). all ++ set) c.new-set.ensures ∙ append-nil all)) (SameChanges-refl all)

pub loop-newest-preserved : goal.loop-newest-preserved
loop-newest-preserved c =
    merged_more (map arc_value c.loop-newest.left.now) (map arc_value c.in-Some.below.now) (arc_value c.in-Some.newest.now) c.loop-newest.set c.in_ok-set.set (changes_in (map arc_value c.args.layers.now))
    (map_last arc_value c.loop-newest.left.now c.in-Some.below.now c.in-Some.newest.now c.in-Some.ensures.cases.0)
    (subst (λ (newest : List Change). SameChanges c.in_ok-set.set (newest ++ c.loop-newest.set)) c.deref.ensures c.in_ok-set.ensures) c.loop-newest.invariant

pub returns : goal.returns
returns c = merged_whole arc_value c.loop-newest.left.now c.loop-newest.set (changes_in (map arc_value c.args.layers.now)) c.in_default.ensures.cases c.loop-newest.invariant
