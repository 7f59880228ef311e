use Rattle.api_parts.proofs.SelectionLemmas.{one_selection, one_contexts}
use Rattle.api_parts.proofs.laws.one_selection.Goals as goal

pub returns : goal.returns
returns c = record { selection = one_selection; contexts = one_contexts }
