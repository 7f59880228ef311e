use Rattle.std.proofs.Common.{◌≡◌, ◌++◌, map}
use Rattle.change_set.specs.declared.change.Change.TheVariants.{RemoveMatching}
use Rattle.api_parts.specs.Writes.{removals}
use Rattle.api_parts.proofs.writes.removals.Given as goal

abbrev pub invariant-loop-pattern : goal.invariant-loop-pattern
invariant-loop-pattern l = l.changes ++ map RemoveMatching l.pattern-iterator.rest.items ≡ removals l.selection
