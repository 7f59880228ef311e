use Rattle.std.proofs.Common.{rules, refl}
use Rattle.repo_api.specs.Checks.{passed}
use Rattle.repo_api.proofs.CheckLemmas.{passes, exit}
use Rattle.repo_api.proofs.read.repositories.Goals as goal

pub returns-in_err-is_got : goal.returns-in_err-is_got
returns-in_err-is_got c =
    exit _ _ c.from_residual.result c.in_err-is_got.field-0.0 c.from_residual.ensures.1 (c.in_err-is_got.ensures)

pub returns-in_err-is_uncoded : goal.returns-in_err-is_uncoded
returns-in_err-is_uncoded c =
    passes _ _ c.from_residual-in_err-is_uncoded.result c.in_ok-is_got.field-0 (c.in_ok-is_got.ensures)
    (exit _ _ c.from_residual-in_err-is_uncoded.result c.in_err-is_uncoded.field-0.0 c.from_residual-in_err-is_uncoded.ensures.1 (c.in_err-is_uncoded.ensures))

pub returns-in_err-form : goal.returns-in_err-form
returns-in_err-form c =
    passes _ _ c.from_residual-in_err-form.result c.in_ok-is_got.field-0 (c.in_ok-is_got.ensures)
    (passes _ _ c.from_residual-in_err-form.result c.in_ok-is_uncoded.field-0 (c.in_ok-is_uncoded.ensures)
    (exit _ _ c.from_residual-in_err-form.result c.in_err-form.field-0.0 c.from_residual-in_err-form.ensures.1 (search rules)))

pub returns : goal.returns
returns c =
    passed c.in_ok-is_got.field-0 (c.in_ok-is_got.ensures) (passed c.in_ok-is_uncoded.field-0 (c.in_ok-is_uncoded.ensures) (passed c.in_ok-form.form (search rules) refl))
