use Rattle.std.proofs.Common.{sym, ◌∙◌}
use Rattle.api_requests.proofs.TestLemmas.{quad_told, quad_is}
use Rattle.api_requests.proofs.spellable.has_quads.Goals as goal

pub returns : goal.returns
returns c = (λ h. quad_told c.args.form (sym c.is_quad_form.ensures ∙ h), λ x. c.is_quad_form.ensures ∙ quad_is c.args.form x)
