use Rattle.std.proofs.Common.{◌≡◌, take}
use Rattle.quad_index.specs.Carry.{marked_terms}
use Rattle.quad_index.proofs.carry.marked.Given as goal

abbrev pub invariant-loop-rank : goal.invariant-loop-rank
invariant-loop-rank l = l.kept.items ≡ marked_terms (take l.rank l.terms) (take l.rank l.marks)
