use Rattle.api_parts.proofs.SelectionLemmas.{graphs_found}
use Rattle.api_parts.proofs.selection.read_contexts.Goals as goal

pub returns-clause-graphs : goal.returns-clause-graphs
returns-clause-graphs c = graphs_found _ c.contexts_of.result c.contexts_of.ensures.ok
