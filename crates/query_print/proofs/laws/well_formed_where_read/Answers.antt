use Rattle.query_print.proofs.PrintLaws.{where_read}
use Rattle.query_print.proofs.laws.well_formed_where_read.Goals as goal

pub returns : goal.returns
returns c = where_read c.parted_tokens.ensures c.parsed_queries_are_well_formed.ensures
