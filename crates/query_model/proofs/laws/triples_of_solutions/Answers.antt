use Rattle.query_model.proofs.FoundLemmas.{triples_of}
use Rattle.query_model.proofs.laws.triples_of_solutions.Goals as goal

pub returns : goal.returns
returns c = triples_of
