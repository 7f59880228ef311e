use Rattle.std.proofs.Common.{◌≡◌, ◌-◌, ◌≤◌, false, length, take}
use Rattle.client_script.specs.Inputs.{KeepsStream}
use Rattle.client_script.specs.Waits.{has_lf}
use Rattle.client_script.proofs.input.Input.await_line.Given as goal

abbrev pub decreases-wait : goal.decreases-wait
decreases-wait g l = 1048577 - length l.self

abbrev pub invariant-wait : goal.invariant-wait
invariant-wait g l = record {
  stream : KeepsStream l.initial.self (g.S.Source.left l.initial.source) l.self (g.S.Source.left l.source);
  within : l.seen ≤ length l.self;
  none : has_lf (take l.seen l.self) ≡ false;
  faults : g.S.Source.faults l.source ≡ g.S.Source.faults l.initial.source;
  sound : g.S.Source.sound l.initial.source → g.S.Source.sound l.source;
}
