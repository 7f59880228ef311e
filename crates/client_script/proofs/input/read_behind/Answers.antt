use Rattle.std.proofs.Common.{refl, take, arith}
use Rattle.client_script.proofs.StreamLemmas.{fills_at}
use Rattle.client_script.proofs.input.read_behind.Goals as goal

pub returns-in-Ok-clause-ok : goal.returns-in-Ok-clause-ok
returns-in-Ok-clause-ok g c =
    fills_at (take c.args.at c.args.bytes.now) c.args.bytes.now c.read_at.new.bytes c.args.at c.in-Ok.count (g.S.Source.left c.args.source.now) (g.S.Source.left c.read_at.new.source)
    refl c.in-Ok.ensures.before c.in-Ok.ensures.bound (omega arith) c.in-Ok.ensures.bytes.0 c.in-Ok.ensures.bytes.1
