use Rattle.std.proofs.Common.{◌≡◌, ◌≤◌, All, false, length}
use Rattle.rdf_io.specs.Memory.{DoorState}
use Rattle.rdf_server.specs.WorkDoors.{HaveSessions}
use Rattle.rdf_server.proofs.work_doors.session_doors.Given as goal

abbrev pub invariant-loop-session : goal.invariant-loop-session
invariant-loop-session l = HaveSessions 0 l.rounds l.doors.items × (length l.doors.items ≡ l.session) × All (λ (d : DoorState). d.out ≡ false) l.doors.items
    × (l.session ≤ l.workers)
