use Rattle.query_print.proofs.ParseLaws.{parsed_known}
use Rattle.query_print.proofs.laws.parsed_queries_are_well_formed.Goals as goal

pub returns : goal.returns
returns c = parsed_known c.meaning_is_built.ensures
