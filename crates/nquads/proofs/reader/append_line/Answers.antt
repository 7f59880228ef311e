use Rattle.std.proofs.Common.{ap, Err, refl}
use Rattle.nquads.proofs.reader.append_line.Goals as goal

pub returns-in-Err-Bad-clause-refused : goal.returns-in-Err-Bad-clause-refused
returns-in-Err-Bad-clause-refused c = (refl, c.in-Err-Bad.ensures.bad (ap Err c.in-Err-Bad.field-0-is))
