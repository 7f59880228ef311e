use Rattle.query_model.proofs.FoundLemmas.{rows_of}
use Rattle.query_model.proofs.laws.rows_of_solutions.Goals as goal

pub returns : goal.returns
returns c = rows_of
