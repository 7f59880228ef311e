use Rattle.api_paths.proofs.NameLemmas.{one_transaction}
use Rattle.api_paths.proofs.laws.one_transaction.Goals as goal

pub returns : goal.returns
returns c = one_transaction
