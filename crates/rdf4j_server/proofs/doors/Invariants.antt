use Rattle.std.proofs.Common.{◌≡◌, All, false, vec_len}
use Rattle.rdf_io.specs.declared.tcp_door.TcpDoor.{TcpDoor}
use Rattle.rdf4j_server.proofs.doors.Given as goal

abbrev pub invariant-loop : goal.invariant-loop
invariant-loop l = record { count : vec_len l.doors ≡ l.counter; out : All (λ (d : TcpDoor). d.out ≡ false) l.doors.items }
