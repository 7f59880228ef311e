use Rattle.std.proofs.Common.{◌≡◌, take}
use Rattle.change_set.specs.Kept.{kept_removed}
use Rattle.change_set.proofs.kept.removed_in.Given as goal

abbrev pub invariant-loop-entry : goal.invariant-loop-entry
invariant-loop-entry l = l.found ≡ kept_removed (take l.entry-index l.named)
