use Rattle.rdf_cli.proofs.LawLemmas.{named, only}
use Rattle.rdf_cli.proofs.laws.what_words_name.Goals as goal

pub returns : goal.returns
returns c = record { each = named; only = only }
