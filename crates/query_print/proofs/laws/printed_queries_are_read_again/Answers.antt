use Rattle.query_print.proofs.PrintLaws.{printed_again}
use Rattle.query_print.proofs.laws.printed_queries_are_read_again.Goals as goal

pub returns : goal.returns
returns c = printed_again c.parted_tokens.ensures
