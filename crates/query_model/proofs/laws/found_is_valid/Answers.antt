use Rattle.query_model.proofs.ValidLemmas.{found_valid}
use Rattle.query_model.proofs.laws.found_is_valid.Goals as goal

pub returns : goal.returns
returns c = found_valid
