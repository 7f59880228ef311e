use Rattle.std.proofs.Common.{Some, Err, ap}
use Rattle.client_script.proofs.LineLemmas.{no_statement, long_statement}
use Rattle.client_script.proofs.line.statement.Goals as goal

pub returns-in-Ok-None : goal.returns-in-Ok-None
returns-in-Ok-None c = no_statement c.one_line_reading.ensures c.args.text.now (rw c.in-Ok-None.field-0-is at c.in-Ok-None.ensures.ok.0)

pub returns-in-Err-Bad : goal.returns-in-Err-Bad
returns-in-Err-Bad c = λ q s. c.in-Err-Bad.ensures.bad (ap Err c.in-Err-Bad.field-0-is) (Some q) s.line

pub returns-in-Err-TooLong : goal.returns-in-Err-TooLong
returns-in-Err-TooLong c =
    let x = c.in-Err-TooLong.ensures.long (ap Err c.in-Err-TooLong.field-0-is) in
    long_statement c.one_line_reading.ensures c.args.text.now x.0 x.1 x.2
