use Rattle.std.proofs.Common.{◌≡◌, ◌-◌, ◌≤◌, false, length, take}
use Rattle.http_frame.specs.Search.{has_mark, line_behind}
use Rattle.http_frame.specs.Streams.{KeepsStream}
use Rattle.http_frame.specs.declared.lines.Line.TheVariants.{Blank}
use Rattle.http_frame.proofs.search.await_mark.Given as goal

abbrev pub decreases-wait : goal.decreases-wait
decreases-wait g l = 65536 - length l.buffer

abbrev pub invariant-wait : goal.invariant-wait
invariant-wait g l = record {
  stream : KeepsStream l.initial.buffer (g.S.Source.left l.initial.source) l.buffer (g.S.Source.left l.source);
  within : l.seen ≤ length l.buffer;
  none : has_mark l.mark Blank (take l.seen l.buffer) ≡ false;
  behind : l.line ≡ line_behind Blank (take l.seen l.buffer);
  faults : g.S.Source.faults l.source ≡ g.S.Source.faults l.initial.source;
  sound : g.S.Source.sound l.initial.source → g.S.Source.sound l.source;
}
