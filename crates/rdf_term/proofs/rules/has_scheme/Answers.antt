use Rattle.std.proofs.Common.{◌∙◌, ap}
use Rattle.rdf_term.specs.Validity.{has_scheme}
use Rattle.rdf_term.proofs.TextLemmas.{by_bytes, scheme_bytes}
use Rattle.rdf_term.proofs.rules.has_scheme.Goals as goal

pub returns : goal.returns
returns c =
    c.has_scheme_bytes.ensures ∙ ap has_scheme c.as_bytes.ensures.value ∙ by_bytes has_scheme c.args.text.now c.utf8.text scheme_bytes
