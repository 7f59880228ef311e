use Rattle.std.proofs.Common.{◌∙◌, [], ◌∷◌, ◌++◌, ap}
use Rattle.rdf_term.specs.Sets.{in_order}
use Rattle.quad_index.specs.Contents.{Contents}
use Rattle.quad_index.proofs.IndexLemmas.{one_more}
use Rattle.quad_index.proofs.index.Index.add_with_terms.Goals as goal

pub returns-clause-quads : goal.returns-clause-quads
returns-clause-quads c =
    ap (λ (view : Contents). view.quads) c.drop.view_is ∙ c.in_ok-index.ensures.quads
    ∙ ap in_order (c.in_ok-push.ensures.ok ∙ (λ i. c.in_ok-quads.ensures i ++ c.in_ok-copy.ensures i ∷ []))
    ∙ one_more c.args.self.now.quads c.args.quad.now c.requires
