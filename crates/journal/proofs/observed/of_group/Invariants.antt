use Rattle.std.proofs.Common.{◌≡◌, map, take}
use Rattle.query_model.specs.Observed.{pattern_of}
use Rattle.journal.proofs.observed.of_group.Given as goal

abbrev pub invariant-loop-pattern : goal.invariant-loop-pattern
invariant-loop-pattern l = l.patterns ≡ map pattern_of (take l.pattern-index l.group)
