use Rattle.std.proofs.Common.{◌++◌, length, map}
use Rattle.std.specs.Arc.{arc_value}
use Rattle.change_set.specs.Content.{SameChanges}
use Rattle.branch.specs.Layers.{changes_in}
use Rattle.branch.proofs.layers.merged.Given as goal

abbrev pub invariant-loop-newest : goal.invariant-loop-newest
invariant-loop-newest l = SameChanges (changes_in (map arc_value l.left) ++ l.set) (changes_in (map arc_value l.fn.layers))

abbrev pub decreases-loop-newest : goal.decreases-loop-newest
decreases-loop-newest l = length l.left
