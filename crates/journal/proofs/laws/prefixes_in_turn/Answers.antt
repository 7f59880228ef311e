use Rattle.journal.proofs.Turns.{prefixes_in_turn}
use Rattle.journal.proofs.laws.prefixes_in_turn.Goals as goal

pub returns : goal.returns
returns c = prefixes_in_turn
