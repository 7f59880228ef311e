use Rattle.std.proofs.Common.{sym, ◌∙◌}
use Rattle.rdf_server.proofs.WordLemmas.{ids_repeated, ids_step}
use Rattle.rdf_server.proofs.words.are_ids.Goals as goal

pub returns-then-contains : goal.returns-then-contains
returns-then-contains c =
    ids_repeated c.args.words.now c.loop-word.left.now c.in-Some.behind.now c.in-Some.word.now c.contains.result c.loop-word.invariant.1 c.in-Some.ensures.cases.0 c.contains.ensures.value c.if-contains.true

pub loop-word-preserved : goal.loop-word-preserved
loop-word-preserved c =
    ids_step c.args.words.now c.loop-word.left.now c.in-Some.behind.now c.in-Some.word.now c.contains.result c.loop-word.invariant c.in-Some.ensures.cases.0
    (sym c.is_id.ensures ∙ c.if-not-is_id.false) c.contains.ensures.value c.if-contains.false
