use Rattle.std.proofs.Common.{◌∙◌, ap, sym}
use Rattle.query_grammar.specs.declared.mode.Role.{Role}
use Rattle.query_grammar.specs.Built.{add}
use Rattle.query_grammar.proofs.built.Built.add.Goals as goal

pub returns-in-TemplateEnd : goal.returns-in-TemplateEnd
returns-in-TemplateEnd c = c.end_template.ensures c.args.token.now ∙ ap (λ (r : Role). add c.args.self.now r c.args.token.now) (sym c.in-TemplateEnd.is)
