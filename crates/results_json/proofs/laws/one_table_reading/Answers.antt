use Rattle.results_json.proofs.ShapeLemmas.{one_table}
use Rattle.results_json.proofs.laws.one_table_reading.Goals as goal

pub returns : goal.returns
returns c = one_table
