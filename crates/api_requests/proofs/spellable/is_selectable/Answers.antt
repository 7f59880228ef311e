use Rattle.api_requests.proofs.DecideLemmas.{selection_decides}
use Rattle.api_requests.proofs.spellable.is_selectable.Goals as goal

pub returns : goal.returns
returns c =
    selection_decides c.args.s.now c.args.p.now c.args.o.now c.args.contexts.now c.is_subject-subject.result c.is_predicate-predicate.result c.is_object-object.result c.are_contexts-graphs.result
    c.is_subject-subject.ensures c.is_predicate-predicate.ensures c.is_object-object.ensures c.are_contexts-graphs.ensures
