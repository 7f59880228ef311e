use Rattle.repo_api.proofs.CheckLemmas.{passes, exit}
use Rattle.repo_api.proofs.read.asks_uncoded.Goals as goal

pub returns-in_err-is_uncoded : goal.returns-in_err-is_uncoded
returns-in_err-is_uncoded c =
    exit _ _ c.from_residual.result c.in_err-is_uncoded.field-0.0 c.from_residual.ensures.1 (c.in_err-is_uncoded.ensures)

pub returns : goal.returns
returns c =
    passes _ _ c.asks.result c.in_ok-is_uncoded.field-0 (c.in_ok-is_uncoded.ensures)
    (c.asks.ensures)
