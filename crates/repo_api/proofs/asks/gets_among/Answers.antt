use Rattle.std.proofs.Common.{rules, refl}
use Rattle.repo_api.specs.Checks.{passed}
use Rattle.repo_api.proofs.CheckLemmas.{exit}
use Rattle.repo_api.proofs.asks.gets_among.Goals as goal

pub returns-in_err-form : goal.returns-in_err-form
returns-in_err-form c =
    exit _ _ c.from_residual.result c.in_err-form.field-0.0 c.from_residual.ensures.1 (search rules)

pub returns : goal.returns
returns c =
    passed c.in_ok-form.form (search rules) refl
