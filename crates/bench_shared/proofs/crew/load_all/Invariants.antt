use Rattle.shared_repo.specs.Passes.{IsPass}
use Rattle.bench_shared.proofs.crew.load_all.Given as goal

abbrev pub invariant-loop-start : goal.invariant-loop-start
invariant-loop-start g l = IsPass l.repo l.pass
