use Rattle.std.proofs.Common.{◌∙◌, sym}
use Rattle.std.specs.Str.{chars}
use Rattle.query_model.proofs.WellFormedLemmas.{label_else, label_then}
use Rattle.query_model.proofs.well_formed.is_label.Goals as goal

pub returns-then-is_label : goal.returns-then-is_label
returns-then-is_label c = c.has_no_colon.ensures ∙ label_then (chars c.args.text.now) (sym c.is_label.ensures ∙ c.if-is_label.true)

pub returns-else-is_label : goal.returns-else-is_label
returns-else-is_label c = c.if-is_label.false ∙ sym (label_else (chars c.args.text.now) (sym c.is_label.ensures ∙ c.if-is_label.false))
