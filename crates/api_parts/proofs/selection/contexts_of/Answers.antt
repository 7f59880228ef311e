use Rattle.std.proofs.Common.{rules, refl, ◌∙◌, sym, ap, [], ◌∷◌, ◌++◌}
use Rattle.rdf_term.specs.declared.graph.Graph.{Graph}
use Rattle.api_parts.specs.Selections.{none, with_graph, IsContext}
use Rattle.api_parts.proofs.SelectionLemmas.{contexts_more, no_context, once_more}
use Rattle.api_parts.proofs.selection.contexts_of.Goals as goal

pub loop-value-init : goal.loop-value-init
loop-value-init c = ([], none, c.new-graphs.ensures)

pub returns-in-None-clause-bad : goal.returns-in-None-clause-bad
returns-in-None-clause-bad c =
    let value = c.value-item.result in
    let not : (g : Graph) → IsContext value g → ⊥ = search rules in
    (refl, λ gs x. no_context c.args.values.now gs c.loop-value.value-index value c.loop-value-test.true c.value-item.is not x)

pub loop-value-preserved : goal.loop-value-preserved
loop-value-preserved c =
    let old = c.loop-value.invariant in
    let value = c.value-item.result in
    let g = c.in-Some.graph in
    let is : IsContext value g = search rules in (
      old.0 ++ g ∷ [],
      contexts_more c.args.values.now old.0 g c.loop-value.value-index value c.loop-value-test.true c.value-item.is old.1 is,
      c.in_ok-add_graph-in-Some.ensures ∙ ap (λ gs. with_graph gs g) old.2 ∙ sym (once_more old.0 g),
    )
