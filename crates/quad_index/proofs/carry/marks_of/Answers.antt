use Rattle.std.proofs.Common.{◌∙◌}
use Rattle.quad_index.proofs.CarryLemmas.{marks_more}
use Rattle.quad_index.proofs.carry.marks_of.Goals as goal

pub loop-code-preserved : goal.loop-code-preserved
loop-code-preserved c = (
  c.mark_code.ensures.length ∙ c.loop-code.invariant.0,
  marks_more c.loop-code.marks.items c.mark_code.new.marks.items c.args.codes.now c.loop-code.code-index (record { first = 0; second = 0; third = 0; fourth = 0 }) c.loop-code-test.true c.mark_code.ensures.kept c.mark_code.ensures.marked c.loop-code.invariant.1,
)
