use Rattle.std.proofs.Common.{sym, ap, ◌∙◌}
use Rattle.change_set.specs.Deltas.{removed_patterns}
use Rattle.change_set.proofs.DeltaLemmas.{patterns-kept}
use Rattle.change_set.proofs.kept.Kept.patterns.Goals as goal

pub returns : goal.returns
returns c =
    c.as_slice.ensures.value
    ∙ sym (patterns-kept c.self.inside.patterns.items c.self.inside.named.items)
    ∙ ap removed_patterns c.self.view_is
