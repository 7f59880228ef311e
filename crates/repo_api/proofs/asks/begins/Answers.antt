use Rattle.std.proofs.Common.{refl}
use Rattle.repo_api.specs.Checks.{passed}
use Rattle.repo_api.proofs.CheckLemmas.{exit}
use Rattle.repo_api.proofs.asks.begins.Goals as goal

pub returns-in_err-level : goal.returns-in_err-level
returns-in_err-level c =
    exit _ _ c.from_residual-in_err-level.result c.in_err-level.field-0.0 c.from_residual-in_err-level.ensures.1 (rw c.in_ok-parameters.ensures at c.in_err-level.ensures)

pub returns : goal.returns
returns c =
    passed c.in_ok-level.level (rw c.in_ok-parameters.ensures at c.in_ok-level.ensures) refl
