use Rattle.std.proofs.Common.{sym, ap, ◌∙◌}
use Rattle.change_set.specs.Deltas.{removed_quads}
use Rattle.change_set.specs.Kept.{kept_removed}
use Rattle.change_set.proofs.DeltaLemmas.{removals-kept}
use Rattle.change_set.proofs.kept.Kept.removals.Goals as goal

pub returns : goal.returns
returns c =
    c.in_ok-found.ensures
    ∙ ap kept_removed c.as_slice.ensures.value
    ∙ sym (removals-kept c.self.inside.patterns.items c.self.inside.named.items c.self.invariant)
    ∙ ap removed_quads c.self.view_is
