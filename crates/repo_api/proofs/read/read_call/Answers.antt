use Rattle.std.proofs.Common.{rules}
use Rattle.repo_api.proofs.CheckLemmas.{passes, exit}
use Rattle.repo_api.proofs.read.read_call.Goals as goal

pub returns-in_err-resource : goal.returns-in_err-resource
returns-in_err-resource c =
    exit _ _ c.from_residual.result c.in_err-resource.field-0.0 c.from_residual.ensures.1 (search rules)

pub returns : goal.returns
returns c =
    passes _ _ c.calls_for.result c.in_ok-resource.resource (search rules)
    (c.calls_for.ensures)
