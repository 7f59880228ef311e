use Rattle.std.proofs.Common.{◌≡◌, take}
use Rattle.query_grammar.specs.Names.{standing}
use Rattle.query_grammar.proofs.names.standing.Given as goal

abbrev pub invariant-loop-pattern : goal.invariant-loop-pattern
invariant-loop-pattern l = l.names ≡ standing (take l.pattern-index l.patterns)
