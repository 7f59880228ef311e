use Rattle.query_model.proofs.WellFormedLemmas.{group_told}
use Rattle.query_model.proofs.well_formed.is_group.Goals as goal

pub returns : goal.returns
returns c = group_told c.args.group.now c.are_patterns.result _ c.as_slice.ensures c.are_patterns.ensures
