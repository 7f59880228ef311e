use Rattle.std.proofs.Common.{find, sym, ap, ◌∙◌}
use Rattle.std.specs.List.{list_any}
use Rattle.std.specs.Map.{keys_of}
use Rattle.rdf_term.specs.Statement.{Statement}
use Rattle.rdf_term.specs.Matching.{matches}
use Rattle.change_set.specs.Content.{named_quads}
use Rattle.change_set.proofs.Effects.{named_quads-kept}
use Rattle.change_set.proofs.kept.Kept.least_touched.Goals as goal

pub returns : goal.returns
returns c =
    let test = λ (q : Statement). list_any (λ p. matches p q) c.args.patterns.now in
    c.first_matched.ensures
    ∙ ap (λ es. find test (keys_of es)) c.as_slice.ensures.value
    ∙ ap (find test) (sym (named_quads-kept c.self.inside.patterns.items c.self.inside.named.items c.self.invariant) ∙ ap named_quads c.self.view_is)
