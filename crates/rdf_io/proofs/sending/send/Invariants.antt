use Rattle.std.proofs.Common.{◌≡◌, ◌-◌, ◌≤◌, length, take}
use Rattle.rdf_io.specs.Sending.{Puts}
use Rattle.rdf_io.proofs.sending.send.Given as goal

abbrev pub decreases-loop-at : goal.decreases-loop-at
decreases-loop-at g l = length l.text - l.at

abbrev pub invariant-loop-at : goal.invariant-loop-at
invariant-loop-at g l = record {
  sent : Puts (g.K.Sink.taken l.initial.sink) (g.K.Sink.taken l.sink) (take l.at l.text);
  room : l.at ≤ length l.text;
  faults : g.K.Sink.faults l.sink ≡ g.K.Sink.faults l.initial.sink;
}
