use Rattle.journal.proofs.AloneReads.{done_commit_reads_as_if_alone}
use Rattle.journal.proofs.laws.done_commit_reads_as_if_alone.Goals as goal

pub returns : goal.returns
returns c = done_commit_reads_as_if_alone
