use Rattle.api_requests.proofs.DecideLemmas.{contexts_decide}
use Rattle.api_requests.proofs.spellable.are_contexts.Goals as goal

pub returns : goal.returns
returns c = contexts_decide c.args.contexts.now c.as_slice.result.now c.are_all_contexts.result c.as_slice.ensures.value c.as_slice.ensures.distinct c.are_all_contexts.ensures
