use Rattle.std.proofs.Common.{rules, ◌∙◌}
use Rattle.conflict.proofs.Leasts.{least_at}
use Rattle.conflict.proofs.logged.Logged.least_above.Goals as goal

pub returns-then-self-from : goal.returns-then-self-from
returns-then-self-from c = search rules ∙ least_at c.args.from c.args.patterns.now c.args.self.now (search rules)
