use Rattle.std.proofs.Common.{◌≡◌, subst, ap, ◌∙◌}
use Rattle.std.specs.List.{flat_map}
use Rattle.std.specs.Result.{IfOk}
use Rattle.rdf_term.specs.Order.{term_cmp}
use Rattle.rdf_term.specs.Sets.{sorted_set}
use Rattle.rdf_term.specs.Statement.{Statement}
use Rattle.query_model.specs.Solutions.{graph_terms}
use Rattle.repo_store.proofs.ListLemmas.{names-named}
use Rattle.repo_store.proofs.names.graph_names.Goals as goal

pub returns : goal.returns
returns c =
    subst (λ terms. IfOk c.in_turn.result (λ names. names ≡ terms))
    (c.in_ok-names_of.ensures
    ∙ ap (λ quads. sorted_set term_cmp (flat_map (λ (q : Statement). graph_terms q.c) quads)) (c.as_slice.ensures ∙ c.in_ok-quads.ensures.value)
    ∙ ap (sorted_set term_cmp) (names-named c.args.view.now.quads))
    c.in_turn.ensures
