use Rattle.std.proofs.Common.{filter, sym, ap, ◌∙◌}
use Rattle.rdf_term.specs.Matching.{matches}
use Rattle.change_set.specs.Content.{content}
use Rattle.change_set.specs.Kept.{kept_added}
use Rattle.change_set.proofs.Contents.{content-kept}
use Rattle.change_set.proofs.kept.Kept.matching.Goals as goal

pub returns : goal.returns
returns c =
    let pattern = c.args.pattern.now in
    c.in_ok-found.ensures
    ∙ c.within-near.ensures.added
    ∙ ap (λ es. filter (matches pattern) (kept_added es)) c.as_slice.ensures.value
    ∙ ap (filter (matches pattern)) (sym (content-kept c.self.inside.patterns.items c.self.inside.named.items c.self.invariant) ∙ ap content c.self.view_is)
