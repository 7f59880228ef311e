use Rattle.std.proofs.Common.{List, ap, sym, ◌∙◌}
use Rattle.std.specs.Option.{option_copied}
use Rattle.rdf_term.specs.Order.{quad_cmp}
use Rattle.conflict.specs.Logs.{LoggedDelta}
use Rattle.conflict.specs.Clashes.{lesser, least_observed, quads_above}
use Rattle.conflict.proofs.Leasts.{least_next, least_done, quads_joined}
use Rattle.conflict.proofs.search.least_above.Goals as goal

pub loop-logged-preserved : goal.loop-logged-preserved
loop-logged-preserved c =
    let found = λ (kept : List LoggedDelta). least_observed c.args.patterns.now (quads_above c.args.from kept) in
    let before = option_copied c.loop-logged.least in
    let behind = c.in-Some.behind.now in
    ap (λ m. lesser quad_cmp m (found behind)) (c.lesser-least.ensures ∙ ap (lesser quad_cmp before) c.least_above.ensures)
    ∙ quads_joined before _ (found behind)
    ∙ ap (lesser quad_cmp before) (sym (least_next c.args.from c.args.patterns.now c.in-Some.logged.now behind) ∙ sym (ap found c.in-Some.ensures.cases.0))
    ∙ c.loop-logged.invariant

pub returns : goal.returns
returns c = least_done c.args.from c.args.patterns.now (option_copied c.loop-logged.least) c.loop-logged.left.now c.in_default.ensures.cases ∙ c.loop-logged.invariant
