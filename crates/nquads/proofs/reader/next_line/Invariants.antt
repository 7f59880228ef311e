use Rattle.std.proofs.Common.{IsTrue, take}
use Rattle.nquads.specs.Lines.{no_end}
use Rattle.nquads.proofs.reader.next_line.Given as goal

abbrev pub invariant-loop-place : goal.invariant-loop-place
invariant-loop-place l = IsTrue (no_end (take l.place l.bytes))
