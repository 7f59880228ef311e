use Rattle.std.proofs.Common.{rules, ap, ◌∙◌, ◌&&◌, filter}
use Rattle.std.proofs.lemmas.Fn.{filter_same}
use Rattle.rdf_term.specs.Statement.{Statement}
use Rattle.quad_index.specs.Contents.{is_in}
use Rattle.change_set.specs.Content.{last_effect, is_removed}
use Rattle.branch.proofs.deltas.lost.Goals as goal

pub returns : goal.returns
returns c =
    c.from_vec.ensures
    ∙ filter_same _ (λ q. is_removed (last_effect c.args.set.now q) && is_in q c.args.base.now.quads) _ (λ q b f r. search rules) c.into_vec-quads.result.items c.retain.new.self.items c.retain.ensures.filtered
    ∙ ap (filter (λ (q : Statement). is_removed (last_effect c.args.set.now q) && is_in q c.args.base.now.quads)) c.into_vec-quads.ensures
