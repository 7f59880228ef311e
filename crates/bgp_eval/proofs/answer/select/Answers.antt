use Rattle.std.proofs.Common.{◌≡◌, ◌∙◌, ℕ, List, map, refl, sym}
use Rattle.query_model.specs.declared.query.Slot.TheVariants.{Var}
use Rattle.query_model.specs.Unknowns.{unknowns}
use Rattle.bgp_eval.specs.declared.search.Kept.TheVariants.{Columns}
use Rattle.bgp_eval.specs.declared.search.Wanted.{Wanted}
use Rattle.bgp_eval.specs.Parts.{part_of}
use Rattle.bgp_eval.proofs.AnswerLemmas.{select-all, select-many}
use Rattle.bgp_eval.proofs.answer.select.Goals as goal

pub returns-then-has_enough : goal.returns-then-has_enough
returns-then-has_enough g c =
    let wanted : Wanted = record { kept = Columns c.in_ok-parts.parts; most = c.args.most } in
    select-many c.args.distinct c.args.vars.now c.args.group.now c.args.cut (map g.V.Scan.content c.args.views.now) wanted c.in_ok-rows.rows c.in_ok-rows.ensures
    (sym c.has_enough.ensures ∙ c.if-has_enough.true)

pub returns : goal.returns
returns g c =
    let wanted : Wanted = record { kept = Columns c.in_ok-parts.parts; most = c.args.most } in
    let parts : c.in_ok-parts.parts.items ≡ map (λ (var : List ℕ). part_of (unknowns c.args.group.now) (Var var)) c.args.vars.now =
    c.in_ok-parts.ensures
    ∙ (λ i. map (λ (var : List ℕ). part_of (c.in_ok-names.ensures i) (Var var)) (c.as_slice.ensures.value i)) in
    select-all c.args.distinct c.args.vars.now c.in_ok-copy.field-0 c.args.group.now c.args.cut (map g.V.Scan.content c.args.views.now) wanted c.in_ok-parts.parts.items
    c.in_ok-rows.rows c.in_ok-sorted.sorted c.in_ok-rows-2.rows c.in_ok-rows.ensures (sym c.has_enough.ensures ∙ c.if-has_enough.false) (λ row. refl)
    parts c.in_ok-sorted.ensures c.in_ok-rows-2.ensures c.in_ok-copy.ensures
