use Rattle.journal.proofs.SerialJournals.{serial_journal_agrees}
use Rattle.journal.proofs.laws.serial_journal_agrees.Goals as goal

pub returns : goal.returns
returns c = serial_journal_agrees
