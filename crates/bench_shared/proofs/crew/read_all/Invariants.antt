use Rattle.shared_repo.specs.Passes.{IsPass}
use Rattle.bench_shared.proofs.crew.read_all.Given as goal

abbrev pub invariant-loop-number : goal.invariant-loop-number
invariant-loop-number g l = IsPass l.repo l.pass
