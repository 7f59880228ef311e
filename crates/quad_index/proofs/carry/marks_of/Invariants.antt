use Rattle.std.proofs.Common.{◌≡◌, length, take}
use Rattle.std.specs.List.{AllByRecursion}
use Rattle.quad_index.specs.Carry.{AreMarked}
use Rattle.quad_index.proofs.carry.marks_of.Given as goal

abbrev pub invariant-loop-code : goal.invariant-loop-code
invariant-loop-code l = (length l.marks.items ≡ length l.terms) × AllByRecursion (AreMarked l.marks.items) (take l.code-index l.codes)
