use Rattle.reply_reading.proofs.LocationLemmas.{name_utf8}
use Rattle.reply_reading.proofs.location.txn_named.Goals as goal

pub returns-in-Err : goal.returns-in-Err
returns-in-Err c = λ t e few. name_utf8 c.args.name.now t c.in-Err.ensures.cases.0 e few
