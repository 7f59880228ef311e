use Rattle.std.proofs.Common.{◌≡◌, ◌+◌, ◌++◌, ◌∷◌, [], All, false, List, length, subst, sym, arith}
use Rattle.std.proofs.lemmas.List.Elements.{All-append, All-cons, All-nil}
use Rattle.rdf_io.specs.Memory.{DoorState}
use Rattle.rdf_server.specs.WorkDoors.{HaveSessions}
use Rattle.rdf_server.proofs.WorkLemmas.{more_sessions}
use Rattle.rdf_server.proofs.work_doors.session_doors.Goals as goal

pub loop-session-preserved : goal.loop-session-preserved
loop-session-preserved c =
    let door = c.in_ok-session_door.field-0 in
    let held = c.loop-session.invariant in
    let place : c.loop-session.session ≡ 0 + length c.loop-session.doors.items = omega (arith, held.1) in
    let more : c.push.new.self.items ≡ c.loop-session.doors.items ++ door ∷ [] = c.in_ok-push.ensures.items in (
      subst (λ (ds : List DoorState). HaveSessions 0 c.args.rounds ds) (sym more)
          (more_sessions 0 c.loop-session.session c.args.rounds c.loop-session.doors.items door place held.0 c.in_ok-session_door.ensures.session),
      omega (arith, c.in_ok-push.ensures.len, held.1),
      subst (λ (ds : List DoorState). All (λ (d : DoorState). d.out ≡ false) ds) (sym more)
          (All-append (λ (d : DoorState). d.out ≡ false) c.loop-session.doors.items (door ∷ []) held.2
          (All-cons (λ (d : DoorState). d.out ≡ false) door [] c.in_ok-session_door.ensures.out (All-nil (λ (d : DoorState). d.out ≡ false)))),
      omega (arith, c.loop-session-test.true),
    )
