use Rattle.shared_repo.specs.Passes.{ArePasses}
use Rattle.bench_shared.proofs.run.Given as goal

abbrev pub invariant-loop-name : goal.invariant-loop-name
invariant-loop-name g l = ArePasses l.repo l.passes.items
