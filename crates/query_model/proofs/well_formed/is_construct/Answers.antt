use Rattle.query_model.proofs.WellFormedLemmas.{construct_told}
use Rattle.query_model.proofs.well_formed.is_construct.Goals as goal

pub returns : goal.returns
returns c = construct_told c.args.template.now c.args.group.now c.args.cut.now c.construct_passes.result _ _ c.as_slice.ensures c.as_slice-2.ensures c.construct_passes.ensures
