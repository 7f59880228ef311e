use Rattle.std.proofs.Common.{◌∙◌, sym, ap}
use Rattle.std.specs.Str.{chars}
use Rattle.rdf_term.specs.Validity.{is_iri_text, is_short}
use Rattle.repo_api.proofs.ContentLemmas.{no_namespace, namespace_is}
use Rattle.repo_api.proofs.content.namespace_of.Goals as goal

pub returns-in_default : goal.returns-in_default
returns-in_default c = λ never. no_namespace c.args.body.now c.in_default.ensures.cases.0

pub returns-then-is_short : goal.returns-then-is_short
returns-then-is_short c =
    let same = c.in-Ok.ensures.cases.0 in
    namespace_is c.args.body.now c.in_ok-from_chars.field-0 c.in-Ok.ensures.cases.1 (c.in_ok-from_chars.ensures ∙ same)
    (ap (λ bs. is_iri_text (chars bs)) (sym same) ∙ sym c.is_iri_text.ensures ∙ c.if-is_iri_text.true)
    (ap (λ bs. is_short (chars bs)) (sym same) ∙ sym c.is_short.ensures ∙ c.if-is_short.true)
