use Rattle.std.proofs.Common.{◌∙◌, ap, sym, subst, ◌&&◌}
use Rattle.std.specs.Str.{IsUtf8}
use Rattle.rdf_term.specs.Validity.{is_short}
use Rattle.rdf_term.proofs.TextLemmas.{chars_of, scalars_of}
use Rattle.rdf_term.proofs.text.Text.is_short.Goals as goal

pub returns-clause-value : goal.returns-clause-value
returns-clause-value c = c.is_short.ensures ∙ ap is_short (chars_of c.args.self.now c.as_str.result.now c.as_str.utf8 c.as_str.ensures)

pub returns-clause-part : goal.returns-clause-part
returns-clause-part c =
    c.is_short.ensures ∙ ap is_short (chars_of c.args.self.now c.as_str.result.now c.as_str.utf8 c.as_str.ensures)
    ∙ ap (λ k. k && is_short c.args.self.now) (sym (scalars_of c.args.self.now (subst IsUtf8 c.as_str.ensures c.as_str.utf8)))

pub returns-clause-scalars : goal.returns-clause-scalars
returns-clause-scalars c = scalars_of c.args.self.now (subst IsUtf8 c.as_str.ensures c.as_str.utf8)
