use Rattle.std.proofs.Common.{refl}
use Rattle.repo_api.specs.Checks.{passed}
use Rattle.repo_api.proofs.CheckLemmas.{passes, exit}
use Rattle.repo_api.proofs.read.on_part.Goals as goal

pub returns-in_err-is_there : goal.returns-in_err-is_there
returns-in_err-is_there c =
    exit _ _ c.from_residual.result c.in_err-is_there.field-0.0 c.from_residual.ensures.1 (c.in_err-is_there.ensures)

pub returns-in_err-op : goal.returns-in_err-op
returns-in_err-op c =
    passes _ _ c.from_residual-in_err-op.result c.in_ok-is_there.field-0 (c.in_ok-is_there.ensures)
    (exit _ _ c.from_residual-in_err-op.result c.in_err-op.field-0.0 c.from_residual-in_err-op.ensures.1 (c.in_err-op.ensures))

pub returns : goal.returns
returns c =
    passed c.in_ok-is_there.field-0 (c.in_ok-is_there.ensures) (passed (c.in_ok-op.op, c.in_ok-op.form) (c.in_ok-op.ensures) refl)
