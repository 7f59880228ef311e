use Rattle.rdf_server.proofs.WordLemmas.{no_order, some_order}
use Rattle.rdf_server.proofs.words.order_of.Goals as goal

pub returns-clause-some : goal.returns-clause-some
returns-clause-some c = some_order c.args.word.now c.as_str.result.now c.from_letters.result c.as_str.utf8 c.as_str.ensures c.from_letters.ensures.some

pub returns-clause-none : goal.returns-clause-none
returns-clause-none c = no_order c.args.word.now c.as_str.result.now c.from_letters.result c.as_str.ensures c.from_letters.ensures.none
