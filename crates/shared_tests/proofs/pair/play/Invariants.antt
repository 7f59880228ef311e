use Rattle.std.proofs.Common.{◌≡◌}
use Rattle.shared_repo.specs.Passes.{IsPass, passes_of}
use Rattle.shared_tests.proofs.pair.play.Given as goal

abbrev pub invariant-loop-case : goal.invariant-loop-case
invariant-loop-case g l = (passes_of l.repo ≡ 2) × IsPass l.repo l.first × IsPass l.repo l.second
