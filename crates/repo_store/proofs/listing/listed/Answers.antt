use Rattle.std.proofs.Common.{sym, ap, ◌∙◌, filter}
use Rattle.rdf_term.specs.Matching.{matches}
use Rattle.rdf_term.specs.Sets.{in_order}
use Rattle.journal.specs.Found.{anywhere, matching}
use Rattle.repo_store.specs.Graphs.{graph_by_graph}
use Rattle.repo_store.proofs.ListLemmas.{are_none, are_some, graph_by_graph-set, in_graphs-some, matching-none}
use Rattle.repo_store.proofs.listing.listed.Goals as goal

pub returns-in_ok-everywhere : goal.returns-in_ok-everywhere
returns-in_ok-everywhere c =
    let p = anywhere c.args.s.now c.args.p.now c.args.o.now in
    c.in_ok-everywhere.ensures.value ∙ ap (λ p. filter (matches p) c.args.view.now.quads) c.in_ok-pattern.ensures
    ∙ matching-none p c.args.contexts.now c.args.view.now.quads
    (are_none c.as_slice-graphs.result.now c.args.contexts.now c.is_empty.result c.as_slice-graphs.ensures.value c.is_empty.ensures c.if-is_empty.true)

pub returns-in_ok-set : goal.returns-in_ok-set
returns-in_ok-set c =
    let p = anywhere c.args.s.now c.args.p.now c.args.o.now in
    let quads = c.args.view.now.quads in
    c.in_ok-set.ensures.value ∙ ap in_order c.in_ok-found.ensures
    ∙ ap (λ graphs. in_order (graph_by_graph p graphs quads)) c.as_slice-graphs.ensures.value
    ∙ graph_by_graph-set p c.args.contexts.now quads c.layers.ensures.ascending
    ∙ ap (λ ps. matching ps quads) (sym (in_graphs-some p c.args.contexts.now
    (are_some c.as_slice-graphs.result.now c.args.contexts.now c.is_empty.result c.as_slice-graphs.ensures.value c.is_empty.ensures c.if-is_empty.false)))
