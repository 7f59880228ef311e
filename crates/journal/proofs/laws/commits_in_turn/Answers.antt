use Rattle.journal.proofs.Turns.{commits_in_turn}
use Rattle.journal.proofs.laws.commits_in_turn.Goals as goal

pub returns : goal.returns
returns c = commits_in_turn
