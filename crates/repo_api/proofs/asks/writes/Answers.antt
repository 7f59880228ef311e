use Rattle.std.proofs.Common.{rules}
use Rattle.repo_api.specs.Checks.{passed}
use Rattle.repo_api.proofs.CheckLemmas.{passes, exit}
use Rattle.repo_api.proofs.asks.writes.Goals as goal

pub returns-in_err-kind : goal.returns-in_err-kind
returns-in_err-kind c =
    exit _ _ c.from_residual.result c.in_err-kind.field-0.0 c.from_residual.ensures.1 (search rules)

pub returns-in_err-contexts : goal.returns-in_err-contexts
returns-in_err-contexts c =
    passes _ _ c.from_residual-in_err-contexts.result c.in_ok-kind.kind (search rules)
    (exit _ _ c.from_residual-in_err-contexts.result c.in_err-contexts.field-0.0 c.from_residual-in_err-contexts.ensures.1 (rw c.in_ok-parameters.ensures at c.in_err-contexts.ensures.answer))

pub returns-in_err-quads : goal.returns-in_err-quads
returns-in_err-quads c =
    passes _ _ c.from_residual-in_err-quads.result c.in_ok-kind.kind (search rules)
    (passes _ _ c.from_residual-in_err-quads.result c.in_ok-contexts.contexts (rw c.in_ok-parameters.ensures at c.in_ok-contexts.ensures.answer)
    (exit _ _ c.from_residual-in_err-quads.result c.in_err-quads.field-0.0 c.from_residual-in_err-quads.ensures.1 (λ never. (let told = c.in_err-quads.ensures never in search rules))))

pub returns : goal.returns
returns c =
    passed c.in_ok-kind.kind (search rules) (passed c.in_ok-contexts.contexts (rw c.in_ok-parameters.ensures at c.in_ok-contexts.ensures.answer) (passed c.in_ok-quads.quads (search rules) (search rules)))
