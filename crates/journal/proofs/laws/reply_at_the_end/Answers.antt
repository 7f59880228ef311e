use Rattle.journal.proofs.Growth.{reply_at_the_end}
use Rattle.journal.proofs.laws.reply_at_the_end.Goals as goal

pub returns : goal.returns
returns c = reply_at_the_end
