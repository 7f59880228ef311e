use Rattle.journal.proofs.Growth.{reply_reads_no_later_entry}
use Rattle.journal.proofs.laws.reply_reads_no_later_entry.Goals as goal

pub returns : goal.returns
returns c = reply_reads_no_later_entry
