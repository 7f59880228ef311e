use Rattle.std.proofs.Common.{◌≡◌, false, take}
use Rattle.http_frame.specs.Search.{has_mark, line_behind}
use Rattle.http_frame.proofs.lines.scan.Given as goal

abbrev pub invariant-loop-byte : goal.invariant-loop-byte
invariant-loop-byte l = record {
  none : has_mark l.fn.mark l.fn.line (take l.byte-index l.bytes) ≡ false;
  behind : l.behind ≡ line_behind l.fn.line (take l.byte-index l.bytes);
}
