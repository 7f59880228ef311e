use Rattle.std.proofs.Common.{◌≡◌, false}
use Rattle.journal_lock.specs.Passes.{has_turn, IsPassOf, IsSamePass}
use Rattle.lock_tests.proofs.tally_threads.give_many.Given as goal

abbrev pub invariant-loop-amount : goal.invariant-loop-amount
invariant-loop-amount g l = IsPassOf l.lock l.pass × (has_turn l.pass ≡ false) × IsSamePass l.initial.pass l.pass
