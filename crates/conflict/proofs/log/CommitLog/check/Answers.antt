use Rattle.std.proofs.Common.{rules}
use Rattle.conflict.proofs.Leasts.{clash_found}
use Rattle.conflict.proofs.log.CommitLog.check.Goals as goal

pub returns : goal.returns
returns c = clash_found c.args.from c.args.self.now.kept c.args.observed.now c.in_ok-quad.quad.now c.in_ok-pattern.pattern.now (search rules) (search rules)
