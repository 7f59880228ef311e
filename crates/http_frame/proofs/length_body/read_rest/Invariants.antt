use Rattle.std.proofs.Common.{◌≡◌, ◌-◌, ◌≤◌, length, take}
use Rattle.http_frame.specs.Streams.{KeepsStream}
use Rattle.http_frame.proofs.length_body.read_rest.Given as goal

abbrev pub decreases-read : goal.decreases-read
decreases-read g l = l.count - l.at

abbrev pub invariant-read : goal.invariant-read
invariant-read g l = record {
  stream : KeepsStream l.initial.body.items (g.S.Source.left l.initial.source) (take l.at l.body.items) (g.S.Source.left l.source);
  came : l.at ≤ length l.body.items;
  most : length l.body.items ≤ l.count;
  faults : g.S.Source.faults l.source ≡ g.S.Source.faults l.initial.source;
  sound : g.S.Source.sound l.initial.source → g.S.Source.sound l.source;
}
