use Rattle.std.proofs.Common.{codes, refl}
use Rattle.rdf_server.proofs.WordLemmas.{word_told}
use Rattle.rdf_server.proofs.work_words.is_command.Goals as goal

pub returns : goal.returns
unfolding lib.Utf8.encode
returns c = word_told c.eq.result c.args.word.now c.as_str.result.now (codes "workload") c.as_str.utf8 c.as_str.ensures refl c.eq.ensures
