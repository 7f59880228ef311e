use Rattle.std.proofs.Common.{◌++◌, length}
use Rattle.change_set.specs.Content.{SameChanges}
use Rattle.change_set.proofs.gathered.Gathered.add_all.Given as goal

abbrev pub invariant-loop-change : goal.invariant-loop-change
invariant-loop-change l = SameChanges (l.left ++ l.self) (l.changes ++ l.fn.self)

abbrev pub decreases-loop-change : goal.decreases-loop-change
decreases-loop-change l = length l.left
