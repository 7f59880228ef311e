use Rattle.results_json.proofs.AgainLemmas.{truths_again}
use Rattle.results_json.proofs.laws.truths_read_again.Goals as goal

pub returns : goal.returns
returns c = truths_again
