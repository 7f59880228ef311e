use Rattle.std.proofs.Common.{◌∙◌, ap}
use Rattle.rdf_term.specs.Validity.{is_iri_text}
use Rattle.rdf_term.proofs.TextLemmas.{chars_of}
use Rattle.rdf_term.proofs.text.Text.is_iri_text.Goals as goal

pub returns : goal.returns
returns c = c.is_iri_text.ensures ∙ ap is_iri_text (chars_of c.args.self.now c.as_str.result.now c.as_str.utf8 c.as_str.ensures)
