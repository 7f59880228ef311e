use Rattle.std.proofs.Common.{◌≡◌, ◌≤◌, drop}
use Rattle.nquads_line.specs.Reading.{label_len}
use Rattle.nquads_line.proofs.LabelLemmas.{counted}
use Rattle.nquads_line.proofs.label.label_len.Given as goal

abbrev pub invariant-loop-i : goal.invariant-loop-i
invariant-loop-i l = record {
  value : counted l.count l.i (label_len (drop l.i l.chars)) ≡ label_len l.chars;
  within : l.count ≤ l.i;
}
