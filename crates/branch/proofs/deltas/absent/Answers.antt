use Rattle.std.proofs.Common.{rules, not, ap, ◌∙◌, filter}
use Rattle.std.proofs.lemmas.Fn.{filter_same}
use Rattle.rdf_term.specs.Statement.{Statement}
use Rattle.quad_index.specs.Contents.{is_in}
use Rattle.branch.proofs.deltas.absent.Goals as goal

pub returns : goal.returns
returns c =
    c.from_vec.ensures
    ∙ filter_same _ (λ q. not (is_in q c.args.base.now.quads)) _ (λ q b f r. search rules) c.into_vec-quads.result.items c.retain.new.self.items c.retain.ensures.filtered
    ∙ ap (filter (λ (q : Statement). not (is_in q c.args.base.now.quads))) c.into_vec-quads.ensures
