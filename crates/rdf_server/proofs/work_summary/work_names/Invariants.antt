use Rattle.std.proofs.Common.{◌≡◌, ◌≤◌}
use Rattle.rdf_server.specs.WorkTexts.{own_names}
use Rattle.rdf_server.proofs.work_summary.work_names.Given as goal

abbrev pub invariant-loop-worker : goal.invariant-loop-worker
invariant-loop-worker l = (l.names.items ≡ own_names l.worker) × (l.worker ≤ l.workers)
