use Rattle.std.proofs.Common.{length}
use Rattle.query_grammar.proofs.ReadingLaws.{Reads}
use Rattle.query_grammar.proofs.reader.run.Given as goal

abbrev pub invariant-loop-built : goal.invariant-loop-built
invariant-loop-built l = Reads l.text l.tokens l.mode l.built

abbrev pub decreases-loop-built : goal.decreases-loop-built
decreases-loop-built l = length l.tokens.text
