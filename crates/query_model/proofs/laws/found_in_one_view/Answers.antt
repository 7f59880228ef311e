use Rattle.query_model.proofs.DependLemmas.{in_one_view}
use Rattle.query_model.proofs.laws.found_in_one_view.Goals as goal

pub returns : goal.returns
returns c = in_one_view
