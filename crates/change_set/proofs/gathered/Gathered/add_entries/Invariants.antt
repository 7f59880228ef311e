use Rattle.std.proofs.Common.{◌++◌, length, map}
use Rattle.change_set.specs.Kept.{marked_entry}
use Rattle.change_set.specs.Content.{SameChanges}
use Rattle.change_set.proofs.gathered.Gathered.add_entries.Given as goal

abbrev pub invariant-loop-entry : goal.invariant-loop-entry
invariant-loop-entry l = SameChanges (map marked_entry l.left ++ l.self) (map marked_entry l.named ++ l.fn.self)

abbrev pub decreases-loop-entry : goal.decreases-loop-entry
decreases-loop-entry l = length l.left
