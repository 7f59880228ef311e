use Rattle.std.proofs.Common.{refl}
use Rattle.repo_api.specs.Checks.{passed}
use Rattle.repo_api.proofs.CheckLemmas.{exit}
use Rattle.repo_api.proofs.asks.sizes.Goals as goal

pub returns-in_err-contexts : goal.returns-in_err-contexts
returns-in_err-contexts c =
    exit _ _ c.from_residual-in_err-contexts.result c.in_err-contexts.field-0.0 c.from_residual-in_err-contexts.ensures.1 (rw c.in_ok-parameters.ensures at c.in_err-contexts.ensures.answer)

pub returns : goal.returns
returns c =
    passed c.in_ok-contexts.contexts (rw c.in_ok-parameters.ensures at c.in_ok-contexts.ensures.answer) refl
