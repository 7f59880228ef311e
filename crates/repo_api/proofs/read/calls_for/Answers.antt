use Rattle.std.proofs.Common.{sym, subst}
use Rattle.repo_api.specs.Calls.{CallsFor}
use Rattle.repo_api.specs.Checks.{Gives}
use Rattle.repo_api.specs.declared.resource.Resource.{Resource}
use Rattle.repo_api.proofs.read.calls_for.Goals as goal

pub returns-in-Of : goal.returns-in-Of
returns-in-Of c =
    subst (λ (resource : Resource). Gives (CallsFor c.args.request.now c.args.repos.now resource) c.on_part.result) (sym c.in-Of.is) c.on_part.ensures

pub returns-in-Transaction : goal.returns-in-Transaction
returns-in-Transaction c =
    subst (λ (resource : Resource). Gives (CallsFor c.args.request.now c.args.repos.now resource) c.on_transaction.result) (sym c.in-Transaction.is) c.on_transaction.ensures
