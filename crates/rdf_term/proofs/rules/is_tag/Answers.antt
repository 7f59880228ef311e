use Rattle.std.proofs.Common.{◌∙◌, sym, ap}
use Rattle.rdf_term.specs.Validity.{is_tag}
use Rattle.rdf_term.specs.TagLaws.{is_tag-automaton}
use Rattle.rdf_term.proofs.TextLemmas.{by_bytes, tag_bytes}
use Rattle.rdf_term.proofs.rules.is_tag.Goals as goal

pub returns : goal.returns
returns c =
    c.is_tag_bytes.ensures ∙ sym (is_tag-automaton c.as_bytes.result.now) ∙ ap is_tag c.as_bytes.ensures.value
    ∙ by_bytes is_tag c.args.text.now c.utf8.text tag_bytes
