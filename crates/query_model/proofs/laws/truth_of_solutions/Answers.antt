use Rattle.query_model.proofs.FoundLemmas.{truth_of}
use Rattle.query_model.proofs.laws.truth_of_solutions.Goals as goal

pub returns : goal.returns
returns c = truth_of
