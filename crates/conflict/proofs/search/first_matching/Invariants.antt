use Rattle.std.proofs.Common.{◌≡◌, length, find}
use Rattle.rdf_term.specs.Matching.{matches}
use Rattle.conflict.proofs.search.first_matching.Given as goal

abbrev pub invariant-loop-pattern : goal.invariant-loop-pattern
invariant-loop-pattern l = find (λ p. matches p l.quad) l.left ≡ find (λ p. matches p l.quad) l.patterns

abbrev pub decreases-loop-pattern : goal.decreases-loop-pattern
decreases-loop-pattern l = length l.left
