use Rattle.std.proofs.Common.{◌∙◌, ap}
use Rattle.rdf_term.specs.Validity.{has_scheme}
use Rattle.rdf_term.proofs.TextLemmas.{chars_of}
use Rattle.rdf_term.proofs.text.Text.has_scheme.Goals as goal

pub returns : goal.returns
returns c = c.has_scheme.ensures ∙ ap has_scheme (chars_of c.args.self.now c.as_str.result.now c.as_str.utf8 c.as_str.ensures)
