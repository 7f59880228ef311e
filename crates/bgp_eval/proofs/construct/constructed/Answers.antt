use Rattle.std.proofs.Common.{◌≡◌, ◌∙◌, List, Option, ap, arith}
use Rattle.std.specs.List.{filter_map, flat_map}
use Rattle.std.proofs.lemmas.List.{take_all}
use Rattle.std.proofs.lemmas.Result.{IfOk-weaker}
use Rattle.rdf_term.specs.declared.term.Term.{Term}
use Rattle.rdf_term.specs.Sets.{in_order}
use Rattle.query_model.specs.Found.{made_of}
use Rattle.bgp_eval.specs.Shapes.{triples_in}
use Rattle.bgp_eval.proofs.ShapeLemmas.{all_triples}
use Rattle.bgp_eval.proofs.construct.constructed.Goals as goal

pub returns : goal.returns
returns c =
    let all : c.loop-row.quads ≡ flat_map (λ (row : List (Option Term)). filter_map (made_of c.args.names.now row) c.args.template.now) c.args.rows.now =
    c.loop-row.invariant
    ∙ ap (flat_map (triples_in c.in_ok-shapes.shapes.items)) (take_all c.loop-row.row-index c.args.rows.now (omega arith))
    ∙ all_triples c.args.names.now c.args.template.now c.in_ok-shapes.shapes.items c.args.rows.now c.in_ok-shapes.ensures in
    IfOk-weaker c.into_set.result _ _ (λ it e. e ∙ ap in_order all) c.into_set.ensures.value
