use Rattle.std.proofs.Common.{◌∙◌, ◌&&◌, ap, sym}
use Rattle.rdf_term.proofs.TextLemmas.{chars_of}
use Rattle.query_model.specs.WellFormed.{is_label}
use Rattle.query_model.proofs.well_formed.is_blank.Goals as goal

pub returns-then-is_short : goal.returns-then-is_short
returns-then-is_short c =
    c.is_label.ensures
    ∙ ap is_label (chars_of c.args.label.now c.as_str.result.now c.as_str.utf8 c.as_str.ensures)
    ∙ (λ i. sym (sym c.is_short.ensures.part ∙ c.if-is_short.true) i && is_label c.args.label.now)
