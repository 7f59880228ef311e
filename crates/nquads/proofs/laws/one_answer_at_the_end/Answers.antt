use Rattle.nquads.proofs.DocumentLemmas.{end_fault, end_once, end_good}
use Rattle.nquads.proofs.laws.one_answer_at_the_end.Goals as goal

pub returns : goal.returns
returns c = record { fault = end_fault; taken = end_once; refused_or_taken = end_good }
