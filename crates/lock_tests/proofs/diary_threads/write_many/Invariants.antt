use Rattle.std.proofs.Common.{◌≡◌, false}
use Rattle.journal_lock.specs.Passes.{has_turn, IsPassOf}
use Rattle.lock_tests.proofs.diary_threads.write_many.Given as goal

abbrev pub invariant-loop-number : goal.invariant-loop-number
invariant-loop-number g l = IsPassOf l.lock l.pass × (has_turn l.pass ≡ false)
