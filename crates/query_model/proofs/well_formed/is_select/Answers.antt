use Rattle.query_model.proofs.WellFormedLemmas.{select_told}
use Rattle.query_model.proofs.well_formed.is_select.Goals as goal

pub returns : goal.returns
returns c = select_told c.args.vars.now c.args.group.now c.args.cut.now c.select_passes.result _ _ c.as_slice.ensures.value c.as_slice-2.ensures c.as_slice.ensures.distinct c.select_passes.ensures
