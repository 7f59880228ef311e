use Rattle.repo_api.proofs.CheckLemmas.{passes, exit}
use Rattle.repo_api.proofs.read.acts_by_parameters.Goals as goal

pub returns-in_err-task : goal.returns-in_err-task
returns-in_err-task c =
    exit _ _ c.from_residual-in_err-task.result c.in_err-task.field-0.0 c.from_residual-in_err-task.ensures.1 (rw c.in_ok-parameters.ensures at c.in_err-task.ensures)

pub returns : goal.returns
returns c =
    passes _ _ c.asks.result c.in_ok-task.task (rw c.in_ok-parameters.ensures at c.in_ok-task.ensures)
    (c.asks.ensures)
