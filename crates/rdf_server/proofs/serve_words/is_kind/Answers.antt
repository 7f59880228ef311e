use Rattle.rdf_server.proofs.ServeLemmas.{kind_told}
use Rattle.rdf_server.proofs.serve_words.is_kind.Goals as goal

pub returns : goal.returns
returns c = kind_told c.eq.result c.args.word.now c.as_str.result.now c.kind_text.result.now c.args.kind c.as_str.utf8 c.as_str.ensures c.kind_text.ensures c.eq.ensures
