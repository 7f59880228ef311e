use Rattle.query_model.proofs.DependLemmas.{in_each_view}
use Rattle.query_model.proofs.laws.found_in_each_view.Goals as goal

pub returns : goal.returns
returns c = in_each_view
