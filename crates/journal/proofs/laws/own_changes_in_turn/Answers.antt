use Rattle.journal.proofs.Turns.{own_changes_in_turn}
use Rattle.journal.proofs.laws.own_changes_in_turn.Goals as goal

pub returns : goal.returns
returns c = own_changes_in_turn
