use Rattle.journal.proofs.Among.{transaction_is_among_the_open_ones}
use Rattle.journal.proofs.laws.transaction_is_among_the_open_ones.Goals as goal

pub returns : goal.returns
returns c = transaction_is_among_the_open_ones
