use Rattle.std.proofs.Common.{◌≡◌, length, find}
use Rattle.std.specs.List.{list_any}
use Rattle.std.specs.Map.{keys_of}
use Rattle.rdf_term.specs.Matching.{matches}
use Rattle.change_set.proofs.kept.first_matched.Given as goal

abbrev pub invariant-loop-entry : goal.invariant-loop-entry
invariant-loop-entry l = find (λ q. list_any (λ p. matches p q) l.patterns) (keys_of l.left) ≡ find (λ q. list_any (λ p. matches p q) l.patterns) (keys_of l.named)

abbrev pub decreases-loop-entry : goal.decreases-loop-entry
decreases-loop-entry l = length l.left
