use Rattle.std.proofs.Common.{sym, ◌∙◌}
use Rattle.api_requests.proofs.TestLemmas.{plain_told, plain_is}
use Rattle.api_requests.proofs.spellable.is_plain_text.Goals as goal

pub returns : goal.returns
returns c = (λ h. plain_told c.args.form (sym c.is_plain.ensures ∙ h), λ x. c.is_plain.ensures ∙ plain_is c.args.form x)
