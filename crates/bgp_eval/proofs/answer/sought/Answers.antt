use Rattle.std.proofs.Common.{◌≡◌, ◌∙◌, ◌+◌, ◌++◌, None, Option, ap, sym, length, map, replicate, take}
use Rattle.std.proofs.lemmas.List.{length-map}
use Rattle.rdf_term.specs.declared.term.Term.{Term}
use Rattle.bgp_eval.specs.Kept.{kept}
use Rattle.bgp_eval.specs.Steps.{search_steps}
use Rattle.bgp_eval.specs.Ways.{ways}
use Rattle.bgp_eval.proofs.SoughtLemmas.{sought}
use Rattle.bgp_eval.proofs.answer.sought.Goals as goal

pub returns : goal.returns
returns g c =
    let views = map g.V.Scan.content c.args.views.now in
    let start : c.in_ok-row.row.items ≡ replicate (length c.args.names.now) None = c.in_ok-row.ensures ∙ ap (λ n. replicate {A = Option Term} n None) c.len-2.ensures in
    let steps : c.in_ok-steps.steps.items ≡ search_steps c.args.names.now (length views) c.args.group.now =
    c.in_ok-steps.ensures ∙ ap (λ n. search_steps c.args.names.now n c.args.group.now) (sym (length-map c.args.views.now g.V.Scan.content)) in
    sought c.each_solution_once.ensures c.args.wanted.now c.args.group.now views c.args.names.now c.in_ok-steps.steps.items c.in_ok-plan.plan.items c.in_ok-row.row.items
    c.new-rows.result c.search.new.found c.requires steps c.in_ok-plan.ensures start c.new-rows.ensures
    (c.in_ok-search.ensures.found ∙ ap (λ plan. take (c.args.wanted.now.most + 1) (c.new-rows.result ++ map (kept c.args.wanted.now.kept) (ways views plan c.in_ok-row.row.items))) c.as_slice.ensures.value)
