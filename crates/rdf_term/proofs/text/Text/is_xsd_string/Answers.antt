use Rattle.std.proofs.Common.{◌∙◌, ap}
use Rattle.std.specs.Str.{bytes_eq}
use Rattle.rdf_term.specs.Validity.{xsd_string}
use Rattle.rdf_term.proofs.TextLemmas.{xsd_same}
use Rattle.rdf_term.proofs.text.Text.is_xsd_string.Goals as goal

pub returns : goal.returns
returns c = c.is_xsd_string.ensures ∙ ap (λ t. bytes_eq t xsd_string) c.as_str.ensures ∙ xsd_same c.args.self.now
