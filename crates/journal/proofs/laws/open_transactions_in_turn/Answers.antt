use Rattle.journal.proofs.Open.{open_transactions_in_turn}
use Rattle.journal.proofs.laws.open_transactions_in_turn.Goals as goal

pub returns : goal.returns
returns c = open_transactions_in_turn
