use Rattle.reply_reading.proofs.CountLemmas.{counted, uncounted}
use Rattle.reply_reading.proofs.count.parsed.Goals as goal

pub returns-in-Ok : goal.returns-in-Ok
returns-in-Ok c = counted c.args.digits.now c.parse.result _ c.parse.ensures.value.0 c.requires c.in-Ok.is

pub returns-in-Err : goal.returns-in-Err
returns-in-Err c = uncounted c.args.digits.now c.parse.result _ c.parse.ensures.value.0 c.requires c.in-Err.is
