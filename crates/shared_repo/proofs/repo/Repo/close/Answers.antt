use Rattle.journal_lock.specs.Passes.{seen}
use Rattle.shared_repo.proofs.PassLemmas.{each_ends, idle_passes}
use Rattle.shared_repo.proofs.repo.Repo.close.Goals as goal

pub close-state-requires-clause-passes : goal.close-state-requires-clause-passes
close-state-requires-clause-passes c = idle_passes c.args.self c.args.passes.items c.requires.passes

pub returns-clause-ends : goal.returns-clause-ends
returns-clause-ends c = each_ends c.args.passes.items (seen c.close-state.result.1) c.close-state.ensures.prefixes
