use Rattle.client_script.proofs.LineLemmas.{one_command}
use Rattle.client_script.proofs.laws.one_command.Goals as goal

pub returns : goal.returns
returns c = one_command c.one_line_reading.ensures c.one_query.ensures
