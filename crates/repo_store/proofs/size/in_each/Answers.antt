use Rattle.std.proofs.Common.{ap, ◌∙◌, filter, length, min, ◌≡◌, ◌^◌, ◌-◌}
use Rattle.rdf_term.specs.Matching.{matches}
use Rattle.repo_store.specs.Graphs.{in_graph}
use Rattle.repo_store.proofs.ListLemmas.{counted-on, every, nothing_counted}
use Rattle.repo_store.proofs.size.in_each.Goals as goal

pub loop-graph-init : goal.loop-graph-init
loop-graph-init c = nothing_counted c.args.view.now.quads (2 ^ 64 - 1)

pub loop-graph-preserved : goal.loop-graph-preserved
loop-graph-preserved c =
    let there : c.count.result ≡ min (length (filter (matches (in_graph every c.graph-item.result)) c.args.view.now.quads)) (2 ^ 64 - 1) =
    c.count.ensures ∙ ap (λ p. min (length (filter (matches p) c.args.view.now.quads)) (2 ^ 64 - 1)) (c.every_quad-pattern.ensures ∙ ap (in_graph every) c.in_ok-copy.ensures) in
    c.saturating_add-count.ensures
    ∙ counted-on c.args.graphs.now c.loop-graph.graph-index c.graph-item.result c.args.view.now.quads c.loop-graph.count c.count.result (2 ^ 64 - 1)
    c.requires c.loop-graph-test.true c.graph-item.is c.loop-graph.invariant there
