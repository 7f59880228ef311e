use Rattle.journal.proofs.Growth.{committed_in_turn}
use Rattle.journal.proofs.laws.committed_in_turn.Goals as goal

pub returns : goal.returns
returns c = committed_in_turn
