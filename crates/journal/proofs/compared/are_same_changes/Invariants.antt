use Rattle.std.proofs.Common.{◌≡◌, length}
use Rattle.journal.specs.Equality.{changes_eq}
use Rattle.journal.proofs.compared.are_same_changes.Given as goal

abbrev pub invariant-loop-change : goal.invariant-loop-change
invariant-loop-change l = changes_eq l.changes l.others ≡ changes_eq l.left l.others_left

abbrev pub decreases-loop-change : goal.decreases-loop-change
decreases-loop-change l = length l.left
