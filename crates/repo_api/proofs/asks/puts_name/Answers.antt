use Rattle.std.proofs.Common.{rules, refl}
use Rattle.repo_api.specs.Checks.{passed}
use Rattle.repo_api.proofs.CheckLemmas.{passes, exit}
use Rattle.repo_api.proofs.asks.puts_name.Goals as goal

pub returns-in_err-prefixed : goal.returns-in_err-prefixed
returns-in_err-prefixed c =
    exit _ _ c.from_residual.result c.in_err-prefixed.field-0.0 c.from_residual.ensures.1 (c.in_err-prefixed.ensures)

pub returns-in_err-name : goal.returns-in_err-name
returns-in_err-name c =
    passes _ _ c.from_residual-in_err-name.result c.in_ok-prefixed.field-0 (c.in_ok-prefixed.ensures)
    (exit _ _ c.from_residual-in_err-name.result c.in_err-name.field-0.0 c.from_residual-in_err-name.ensures.1 (search rules))

pub returns : goal.returns
returns c =
    passed c.in_ok-prefixed.field-0 (c.in_ok-prefixed.ensures) (passed c.in_ok-name.name (search rules) refl)
