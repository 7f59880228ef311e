use Rattle.repo_api.proofs.CheckLemmas.{passes, exit}
use Rattle.repo_api.proofs.asks.lists.Goals as goal

pub returns-in_err-s : goal.returns-in_err-s
returns-in_err-s c =
    exit _ _ c.from_residual-in_err-s.result c.in_err-s.field-0.0 c.from_residual-in_err-s.ensures.1 (rw c.in_ok-parameters.ensures at c.in_err-s.ensures)

pub returns : goal.returns
returns c =
    passes _ _ c.gets_among.result _ (rw c.in_ok-parameters.ensures at c.in_ok-s.ensures)
    (c.gets_among.ensures)
