use Rattle.journal.proofs.AloneReads.{committed_reads_as_if_alone}
use Rattle.journal.proofs.laws.committed_reads_as_if_alone.Goals as goal

pub returns : goal.returns
returns c = committed_reads_as_if_alone
