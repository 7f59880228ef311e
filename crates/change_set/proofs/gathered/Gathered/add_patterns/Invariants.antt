use Rattle.std.proofs.Common.{◌++◌, length, map}
use Rattle.change_set.specs.declared.change.Change.TheVariants.{RemoveMatching}
use Rattle.change_set.specs.Content.{SameChanges}
use Rattle.change_set.proofs.gathered.Gathered.add_patterns.Given as goal

abbrev pub invariant-loop-pattern : goal.invariant-loop-pattern
invariant-loop-pattern l = SameChanges (map RemoveMatching l.left ++ l.self) (map RemoveMatching l.patterns ++ l.fn.self)

abbrev pub decreases-loop-pattern : goal.decreases-loop-pattern
decreases-loop-pattern l = length l.left
