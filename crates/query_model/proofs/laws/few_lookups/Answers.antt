use Rattle.query_model.proofs.ValidLemmas.{few_lookups}
use Rattle.query_model.proofs.laws.few_lookups.Goals as goal

pub returns : goal.returns
returns c = few_lookups
