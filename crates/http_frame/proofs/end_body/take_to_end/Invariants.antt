use Rattle.std.proofs.Common.{◌≡◌, ◌-◌, ◌≤◌, ◌++◌, length}
use Rattle.http_frame.specs.Streams.{KeepsStream}
use Rattle.http_frame.proofs.end_body.take_to_end.Given as goal

abbrev pub decreases-read : goal.decreases-read
decreases-read g l = l.most - length l.body.items

abbrev pub invariant-read : goal.invariant-read
invariant-read g l = record {
  stream : KeepsStream l.initial.buffer (g.S.Source.left l.initial.source) (l.body.items ++ l.buffer) (g.S.Source.left l.source);
  few : length l.body.items ≤ l.most;
  faults : g.S.Source.faults l.source ≡ g.S.Source.faults l.initial.source;
  sound : g.S.Source.sound l.initial.source → g.S.Source.sound l.source;
}
