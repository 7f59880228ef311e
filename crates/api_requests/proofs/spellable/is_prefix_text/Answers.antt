use Rattle.std.proofs.Common.{sym, ◌∙◌}
use Rattle.api_requests.proofs.spellable.is_prefix_text.Goals as goal

pub returns : goal.returns
returns c = (λ h. (c.is_short.ensures.scalars, sym c.is_prefix.ensures ∙ h), λ x. c.is_prefix.ensures ∙ x.1)
