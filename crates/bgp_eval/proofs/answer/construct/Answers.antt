use Rattle.std.proofs.Common.{◌∙◌, List, Option, ap, map, refl, sym}
use Rattle.std.specs.List.{filter_map, flat_map}
use Rattle.rdf_term.specs.declared.term.Term.{Term}
use Rattle.rdf_term.specs.Sets.{in_order}
use Rattle.query_model.specs.Found.{made_of}
use Rattle.bgp_eval.specs.declared.search.Kept.TheVariants.{Whole}
use Rattle.bgp_eval.specs.declared.search.Wanted.{Wanted}
use Rattle.bgp_eval.proofs.AnswerLemmas.{construct-all, construct-many}
use Rattle.bgp_eval.proofs.answer.construct.Goals as goal

pub returns-then-has_enough : goal.returns-then-has_enough
returns-then-has_enough g c =
    let wanted : Wanted = record { kept = Whole; most = c.args.most } in
    construct-many c.args.template.now c.args.group.now c.args.cut (map g.V.Scan.content c.args.views.now) wanted c.in_ok-rows.rows c.in_ok-rows.ensures
    (sym c.has_enough.ensures ∙ c.if-has_enough.true)

pub returns : goal.returns
returns g c =
    let wanted : Wanted = record { kept = Whole; most = c.args.most } in
    construct-all c.args.template.now c.args.group.now c.args.cut (map g.V.Scan.content c.args.views.now) wanted c.in_ok-names.names
    c.in_ok-rows.rows c.in_ok-ordered.field-0 c.in_ok-rows-2.rows c.in_ok-quads.quads c.in_ok-rows.ensures (sym c.has_enough.ensures ∙ c.if-has_enough.false) refl
    c.in_ok-names.ensures c.in_ok-ordered.ensures c.in_ok-rows-2.ensures
    (c.in_ok-quads.ensures
    ∙ ap (λ rows. in_order (flat_map (λ (row : List (Option Term)). filter_map (made_of c.in_ok-names.names row) c.args.template.now) rows)) c.as_slice.ensures)
