use Rattle.std.proofs.Common.{sym, subst}
use Rattle.repo_api.specs.Calls.{Asks}
use Rattle.repo_api.specs.Checks.{Gives}
use Rattle.repo_api.specs.declared.task.Task.{Task}
use Rattle.repo_api.proofs.asks.asks.Goals as goal

pub returns-in-List : goal.returns-in-List
returns-in-List c =
    subst (λ (task : Task). Gives (Asks c.args.request.now task) c.lists.result) (sym c.in-List.is) c.lists.ensures

pub returns-in-Size : goal.returns-in-Size
returns-in-Size c =
    subst (λ (task : Task). Gives (Asks c.args.request.now task) c.sizes.result) (sym c.in-Size.is) c.sizes.ensures

pub returns-in-Remove : goal.returns-in-Remove
returns-in-Remove c =
    subst (λ (task : Task). Gives (Asks c.args.request.now task) c.removes.result) (sym c.in-Remove.is) c.removes.ensures
