use Rattle.std.proofs.Common.{◌∙◌, sym, ap, ◌&&◌}
use Rattle.std.specs.List.{list_all}
use Rattle.std.specs.Str.{chars}
use Rattle.rdf_term.specs.Classes.{is_iri_char}
use Rattle.rdf_term.specs.Validity.{has_scheme}
use Rattle.rdf_term.proofs.TextLemmas.{by_bytes, iri_bytes}
use Rattle.rdf_term.proofs.rules.is_iri_text.Goals as goal

pub returns-then-are_iri_bytes : goal.returns-then-are_iri_bytes
returns-then-are_iri_bytes c =
    let e = c.are_iri_bytes.ensures ∙ ap (list_all is_iri_char) c.as_bytes.ensures.value ∙ by_bytes (list_all is_iri_char) c.args.text.now c.utf8.text iri_bytes in
    c.has_scheme.ensures ∙ ap (λ k. k && has_scheme (chars c.args.text.now)) (sym c.if-are_iri_bytes.true ∙ e)

pub returns-else-are_iri_bytes : goal.returns-else-are_iri_bytes
returns-else-are_iri_bytes c =
    let e = c.are_iri_bytes.ensures ∙ ap (list_all is_iri_char) c.as_bytes.ensures.value ∙ by_bytes (list_all is_iri_char) c.args.text.now c.utf8.text iri_bytes in
    c.if-are_iri_bytes.false ∙ ap (λ k. k && has_scheme (chars c.args.text.now)) (sym c.if-are_iri_bytes.false ∙ e)
