use Rattle.journal.proofs.LegalLaws.{legal_in_turn}
use Rattle.journal.proofs.laws.legal_in_turn.Goals as goal

pub returns : goal.returns
returns c = legal_in_turn
