use Rattle.std.proofs.Common.{◌≡◌, ◌+◌, drop}
use Rattle.std.specs.List.{prefix_len}
use Rattle.nquads_line.specs.Reading.{is_tag_char}
use Rattle.nquads_line.proofs.tag.tag_len.Given as goal

abbrev pub invariant-loop-i : goal.invariant-loop-i
invariant-loop-i l = l.i + prefix_len is_tag_char (drop l.i l.chars) ≡ prefix_len is_tag_char l.chars
