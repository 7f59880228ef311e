use Rattle.query_grammar.proofs.MeaningLaws.{tree_reads}
use Rattle.query_grammar.proofs.laws.meaning_is_built.Goals as goal

pub returns : goal.returns
returns c = tree_reads
