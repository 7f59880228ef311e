use Rattle.std.proofs.Common.{◌≡◌, ◌≤◌, ◌^◌}
use Rattle.workload.specs.Numbers.{number_before}
use Rattle.workload.specs.Sessions.{session_bytes}
use Rattle.workload.proofs.rounds.make_session.Given as goal

abbrev pub invariant-loop-round : goal.invariant-loop-round
invariant-loop-round l = record {
  written : l.out.items ≡ session_bytes l.number l.round;
  drawn_is : l.drawn ≡ number_before l.number l.round;
  small : l.drawn ≤ 2 ^ 32;
}
