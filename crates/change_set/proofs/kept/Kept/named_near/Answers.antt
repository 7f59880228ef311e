use Rattle.std.proofs.Common.{filter, sym, ap, ◌∙◌}
use Rattle.std.specs.Map.{keys_of}
use Rattle.rdf_term.specs.Matching.{matches}
use Rattle.change_set.specs.Content.{named_quads}
use Rattle.change_set.proofs.Effects.{named_quads-kept}
use Rattle.change_set.proofs.kept.Kept.named_near.Goals as goal

pub returns : goal.returns
returns c =
    c.within.ensures.named
    ∙ ap (λ es. filter (matches c.args.pattern.now) (keys_of es)) c.as_slice.ensures.value
    ∙ ap (filter (matches c.args.pattern.now)) (sym (named_quads-kept c.self.inside.patterns.items c.self.inside.named.items c.self.invariant) ∙ ap named_quads c.self.view_is)
