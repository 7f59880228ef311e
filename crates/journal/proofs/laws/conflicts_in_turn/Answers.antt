use Rattle.journal.proofs.Turns.{conflicts_in_turn}
use Rattle.journal.proofs.laws.conflicts_in_turn.Goals as goal

pub returns : goal.returns
returns c = conflicts_in_turn
