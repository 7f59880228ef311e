use Rattle.std.proofs.Common.{◌∙◌, ap}
use Rattle.rdf_term.specs.Validity.{is_tag}
use Rattle.rdf_term.proofs.TextLemmas.{chars_of}
use Rattle.rdf_term.proofs.text.Text.is_tag.Goals as goal

pub returns : goal.returns
returns c = c.is_tag.ensures ∙ ap is_tag (chars_of c.args.self.now c.as_str.result.now c.as_str.utf8 c.as_str.ensures)
