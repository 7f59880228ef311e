use Rattle.results_json.proofs.AgainLemmas.{tables_again}
use Rattle.results_json.proofs.laws.tables_read_again.Goals as goal

pub returns : goal.returns
returns c = tables_again
