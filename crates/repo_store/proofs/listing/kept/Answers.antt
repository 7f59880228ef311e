use Rattle.std.proofs.Common.{rules, ap, ◌∙◌, filter}
use Rattle.std.specs.BTreeSet.{contains}
use Rattle.std.proofs.lemmas.Fn.{filter_same}
use Rattle.std.proofs.lemmas.List.Elements.{filter_agree}
use Rattle.rdf_term.specs.Order.{graph_cmp}
use Rattle.rdf_term.specs.Statement.{Statement}
use Rattle.repo_store.specs.Graphs.{is_in_one}
use Rattle.repo_store.proofs.listing.kept.Goals as goal

pub returns : goal.returns
returns c =
    c.from_vec.ensures
    ∙ filter_same _ (λ (q : Statement). contains graph_cmp c.in_ok-graphs.graphs q.c) _ (λ q b f r. search rules) c.into_vec-kept.result.items c.retain.new.self.items c.retain.ensures.filtered
    ∙ filter_agree (λ (q : Statement). contains graph_cmp c.in_ok-graphs.graphs q.c) (is_in_one c.args.graphs.now) (λ q. c.in_ok-graphs.ensures q.c) c.into_vec-kept.result.items
    ∙ ap (filter (is_in_one c.args.graphs.now)) c.into_vec-kept.ensures
