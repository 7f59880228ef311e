use Rattle.std.proofs.Common.{ap, ◌∙◌}
use Rattle.change_set.specs.Content.{applied}
use Rattle.branch.specs.Layers.{Layered}
use Rattle.branch.proofs.branch.Branch.push_shared.Goals as goal

pub returns-clause-quads : goal.returns-clause-quads
returns-clause-quads c =
    c.in_ok-push_shared.ensures.content c.self.inside.base.value.quads c.self.invariant
    ∙ ap (λ (it : Layered). applied it.quads c.args.set.value) c.self.view_is
