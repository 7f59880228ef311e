use Rattle.std.proofs.Common.{sym, ◌∙◌}
use Rattle.api_requests.proofs.TestLemmas.{truth_told, truth_is}
use Rattle.api_requests.proofs.spellable.has_truth.Goals as goal

pub returns : goal.returns
returns c = (λ h. truth_told c.args.form (sym c.is_truth.ensures ∙ h), λ x. c.is_truth.ensures ∙ truth_is c.args.form x)
