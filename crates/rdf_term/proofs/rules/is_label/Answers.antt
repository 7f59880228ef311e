use Rattle.std.proofs.Common.{◌≡◌, ◌∙◌, sym, ap, Some}
use Rattle.std.specs.Prelude.{slice_get}
use Rattle.std.specs.Str.{chars}
use Rattle.rdf_term.proofs.TextLemmas.{label_by_first, label_not}
use Rattle.rdf_term.proofs.rules.is_label.Goals as goal

pub returns-then-begins_label : goal.returns-then-begins_label
returns-then-begins_label c =
    let first : Some c.in-Some.first ≡ slice_get (chars c.args.text.now) 0 = sym c.in-Some.is ∙ c.next.ensures.steps.2 ∙ ap (λ bs. slice_get (chars bs) 0) c.chars.ensures.rest in
    c.is_label_rest.ensures ∙ sym (label_by_first (chars c.args.text.now) c.in-Some.first first (sym c.begins_label.ensures ∙ c.if-begins_label.true))

pub returns-else-begins_label : goal.returns-else-begins_label
returns-else-begins_label c =
    let first : Some c.in-Some.first ≡ slice_get (chars c.args.text.now) 0 = sym c.in-Some.is ∙ c.next.ensures.steps.2 ∙ ap (λ bs. slice_get (chars bs) 0) c.chars.ensures.rest in
    c.if-begins_label.false ∙ sym (label_not (chars c.args.text.now) c.in-Some.first first (sym c.begins_label.ensures ∙ c.if-begins_label.false))
