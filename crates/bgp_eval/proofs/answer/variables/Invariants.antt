use Rattle.std.proofs.Common.{◌≡◌, map, take}
use Rattle.query_model.specs.declared.query.Slot.TheVariants as slot
use Rattle.bgp_eval.specs.Parts.{part_of}
use Rattle.bgp_eval.proofs.answer.variables.Given as goal

abbrev pub invariant-loop-var : goal.invariant-loop-var
invariant-loop-var l = l.parts.items ≡ map (λ var. part_of l.names (slot.Var var)) (take l.var-index l.vars)
