use Rattle.repo_api.proofs.CheckLemmas.{passes, exit}
use Rattle.repo_api.proofs.asks.queries.Goals as goal

pub returns-in_err-is_asked : goal.returns-in_err-is_asked
returns-in_err-is_asked c =
    exit _ _ c.from_residual.result c.in_err-is_asked.field-0.0 c.from_residual.ensures.1 (c.in_err-is_asked.ensures)

pub returns : goal.returns
returns c =
    passes _ _ c.query_with_parameters.result c.in_ok-is_asked.field-0 (c.in_ok-is_asked.ensures)
    (c.query_with_parameters.ensures)
