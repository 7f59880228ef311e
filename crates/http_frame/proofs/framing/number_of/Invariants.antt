use Rattle.std.proofs.Common.{◌≡◌, ◌≤◌, ◌<◌, ◌+◌, ◌*◌, take}
use Rattle.http_frame.specs.Framing.{decimal_value}
use Rattle.http_frame.proofs.framing.number_of.Given as goal

abbrev pub invariant-loop-digit : goal.invariant-loop-digit
invariant-loop-digit l = record {
  within : l.number ≤ 536870912 → l.number ≡ decimal_value (take l.digit-index l.value);
  over : 536870912 < l.number → 536870912 < decimal_value (take l.digit-index l.value);
  room : l.number ≤ 536870912 * 10 + 255;
}
