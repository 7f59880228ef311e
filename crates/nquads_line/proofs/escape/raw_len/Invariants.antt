use Rattle.std.proofs.Common.{◌≡◌, ◌+◌, drop}
use Rattle.std.specs.List.{prefix_len}
use Rattle.nquads_line.specs.Written.{is_raw}
use Rattle.nquads_line.proofs.escape.raw_len.Given as goal

abbrev pub invariant-loop-i : goal.invariant-loop-i
invariant-loop-i l = l.i + prefix_len (is_raw l.form) (drop l.i l.chars) ≡ prefix_len (is_raw l.form) l.chars
