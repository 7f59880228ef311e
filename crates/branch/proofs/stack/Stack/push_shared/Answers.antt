use Rattle.std.proofs.Common.{map, subst, ap, ◌∙◌}
use Rattle.std.specs.Arc.{arc_value}
use Rattle.change_set.specs.Content.{applied}
use Rattle.branch.specs.Bounds.{IsRaised}
use Rattle.branch.specs.Layers.{layered}
use Rattle.branch.proofs.BoundLemmas.{layered-raised}
use Rattle.branch.proofs.stack.Stack.push_shared.Goals as goal

pub returns-clause-content : goal.returns-clause-content
returns-clause-content c =
    let layers = map arc_value c.self.inside.layers.items in
    let set = c.args.set.value in
    let pile = c.in_ok-pile.pile in
    let raised : IsRaised layers set pile.below pile.top.value =
    subst (λ shared. IsRaised (map arc_value shared) set pile.below pile.top.value) c.as_slice.ensures.value c.in_ok-pile.ensures in
    λ base ascending. ap (layered base) c.in_ok-put.ensures.ok
    ∙ layered-raised base layers set pile.below pile.top.value ascending raised
    ∙ ap (λ older. applied (layered base older) set) c.self.view_is
