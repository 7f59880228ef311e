use Rattle.std.proofs.Common.{◌≡◌, ◌++◌}
use Rattle.repo_store.proofs.names.in_turn.Given as goal

abbrev pub invariant-loop-term : goal.invariant-loop-term
invariant-loop-term l = l.terms ++ l.term-iterator ≡ l.fn.set.keys
