use Rattle.bgp_eval.proofs.PlaceLemmas.{none_past}
use Rattle.bgp_eval.proofs.part.value_at.Goals as goal

pub returns-in-None : goal.returns-in-None
returns-in-None c = none_past c.args.row.now c.args.number c.in-None.ensures.lookup.3
