use Rattle.shared_repo.specs.Passes.{IsPass}
use Rattle.shared_tests.proofs.threads.make_entries.Given as goal

abbrev pub invariant-loop : goal.invariant-loop
invariant-loop g l = IsPass l.repo l.pass
