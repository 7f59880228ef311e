use Rattle.std.proofs.Common.{◌≡◌, ◌∙◌, sym, ap, Some}
use Rattle.std.specs.Prelude.{slice_get}
use Rattle.std.specs.Str.{chars}
use Rattle.query_model.proofs.WellFormedLemmas.{name_by_first, name_not}
use Rattle.query_model.proofs.well_formed.is_var_name.Goals as goal

pub returns-then-is_label_start : goal.returns-then-is_label_start
returns-then-is_label_start c =
    let first : Some c.in-Some.first ≡ slice_get (chars c.args.text.now) 0 = sym c.in-Some.is ∙ c.next.ensures.steps.2 ∙ ap (λ bs. slice_get (chars bs) 0) c.chars.ensures.rest in
    c.are_var_chars.ensures ∙ sym (name_by_first (chars c.args.text.now) c.in-Some.first first (sym c.is_label_start.ensures ∙ c.if-is_label_start.true))

pub returns-else-is_label_start : goal.returns-else-is_label_start
returns-else-is_label_start c =
    let first : Some c.in-Some.first ≡ slice_get (chars c.args.text.now) 0 = sym c.in-Some.is ∙ c.next.ensures.steps.2 ∙ ap (λ bs. slice_get (chars bs) 0) c.chars.ensures.rest in
    c.if-is_label_start.false ∙ sym (name_not (chars c.args.text.now) c.in-Some.first first (sym c.is_label_start.ensures ∙ c.if-is_label_start.false))
