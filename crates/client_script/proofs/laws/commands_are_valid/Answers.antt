use Rattle.client_script.proofs.ValidLemmas.{valid_of}
use Rattle.client_script.proofs.laws.commands_are_valid.Goals as goal

pub returns : goal.returns
returns c = valid_of c.lines_are_valid.ensures c.parsed_queries_are_well_formed.ensures
