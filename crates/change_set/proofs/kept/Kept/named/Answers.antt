use Rattle.std.proofs.Common.{sym, ap, ◌∙◌}
use Rattle.change_set.specs.Deltas.{removed_patterns}
use Rattle.change_set.specs.Kept.{changes_of}
use Rattle.change_set.proofs.DeltaLemmas.{patterns-kept}
use Rattle.change_set.proofs.kept.Kept.named.Goals as goal

pub returns-clause-changes : goal.returns-clause-changes
returns-clause-changes c =
    let patterns = c.self.inside.patterns.items in
    let entries = c.self.inside.named.items in
    (λ i. changes_of (removed_patterns (sym c.self.view_is i)) (c.as_slice.ensures.value i))
    ∙ ap (λ ps. changes_of ps entries) (patterns-kept patterns entries)
    ∙ c.self.view_is
