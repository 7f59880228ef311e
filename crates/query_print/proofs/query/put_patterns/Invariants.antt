use Rattle.std.proofs.Common.{◌≡◌, ◌++◌, take}
use Rattle.std.specs.List.{flat_map}
use Rattle.query_print.specs.Printed.{spaced, pattern_words}
use Rattle.query_print.proofs.query.put_patterns.Given as goal

abbrev pub invariant-loop-pattern : goal.invariant-loop-pattern
invariant-loop-pattern l = l.out ≡ l.fn.out ++ spaced (flat_map pattern_words (take l.pattern-index l.patterns))
