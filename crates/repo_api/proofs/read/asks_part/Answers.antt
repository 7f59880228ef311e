use Rattle.std.proofs.Common.{rules}
use Rattle.repo_api.proofs.CheckLemmas.{passes, exit}
use Rattle.repo_api.proofs.read.asks_part.Goals as goal

pub returns-in_err-task : goal.returns-in_err-task
returns-in_err-task c =
    exit _ _ c.from_residual.result c.in_err-task.field-0.0 c.from_residual.ensures.1 (search rules)

pub returns : goal.returns
returns c =
    passes _ _ c.asks_uncoded.result c.in_ok-task.task (search rules)
    (c.asks_uncoded.ensures)
