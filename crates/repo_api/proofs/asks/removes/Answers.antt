use Rattle.std.proofs.Common.{rules}
use Rattle.repo_api.specs.Checks.{passed}
use Rattle.repo_api.proofs.CheckLemmas.{exit}
use Rattle.repo_api.proofs.asks.removes.Goals as goal

pub returns-in_err-selection : goal.returns-in_err-selection
returns-in_err-selection c =
    exit _ _ c.from_residual-in_err-selection.result c.in_err-selection.field-0.0 c.from_residual-in_err-selection.ensures.1 (rw c.in_ok-parameters.ensures at c.in_err-selection.ensures)

pub returns : goal.returns
returns c =
    passed c.in_ok-selection.selection (rw c.in_ok-parameters.ensures at c.in_ok-selection.ensures) (search rules)
