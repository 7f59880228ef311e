use Rattle.std.proofs.Common.{◌≡◌, ℕ, All, List, length, rules, arith, subst, sym}
use Rattle.session.specs.Houses.{AreNames}
use Rattle.session.specs.declared.report.SessionReport.{SessionReport}
use Rattle.worker_pool.specs.declared.door_end.DoorEnd.{DoorEnd}
use Rattle.rdf_server.specs.Workloads.{HasFinished}
use Rattle.rdf_server.proofs.NameLemmas.{are_work_names}
use Rattle.rdf_server.proofs.WorkerLemmas.{worked}
use Rattle.rdf_server.proofs.work.finish_sessions.Goals as goal

pub serve_sessions-requires-clause-names : goal.serve_sessions-requires-clause-names
serve_sessions-requires-clause-names g c κs within =
    subst (λ (names : List (List ℕ)). AreNames names) (sym c.requires.names) (are_work_names c.args.workers c.requires.few)

pub returns-then-have_finished : goal.returns-then-have_finished
returns-then-have_finished g c =
    let count : length c.in_ok-doors.doors.items ≡ c.args.workers = search (rules, arith) in
    worked c.args.workers c.args.rounds c.args.names.now c.in_ok-doors.doors.items c.serve_sessions.new.doors.items c.in_ok-end.end c.requires.names
    c.in_ok-doors.ensures.sessions count c.in_ok-end.ensures
    (subst (λ (ends : List DoorEnd). All (λ (e : DoorEnd). (report : SessionReport) × HasFinished e report) ends) c.as_slice.ensures.value
    (c.have_finished.ensures.0 c.if-have_finished.true))
