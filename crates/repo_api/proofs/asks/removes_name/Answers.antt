use Rattle.std.proofs.Common.{refl}
use Rattle.repo_api.specs.Checks.{passed}
use Rattle.repo_api.proofs.CheckLemmas.{exit}
use Rattle.repo_api.proofs.asks.removes_name.Goals as goal

pub returns-in_err-prefixed : goal.returns-in_err-prefixed
returns-in_err-prefixed c =
    exit _ _ c.from_residual.result c.in_err-prefixed.field-0.0 c.from_residual.ensures.1 (c.in_err-prefixed.ensures)

pub returns : goal.returns
returns c =
    passed c.in_ok-prefixed.field-0 (c.in_ok-prefixed.ensures) refl
