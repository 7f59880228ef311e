use Rattle.nquads.proofs.DocumentLemmas.{answer_once}
use Rattle.nquads.proofs.laws.one_answer.Goals as goal

pub returns : goal.returns
returns c = answer_once
