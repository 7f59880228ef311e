use Rattle.std.proofs.Common.{◌∙◌, ap}
use Rattle.rdf_term.specs.Validity.{is_label}
use Rattle.rdf_term.proofs.TextLemmas.{chars_of}
use Rattle.rdf_term.proofs.text.Text.is_label.Goals as goal

pub returns : goal.returns
returns c = c.is_label.ensures ∙ ap is_label (chars_of c.args.self.now c.as_str.result.now c.as_str.utf8 c.as_str.ensures)
