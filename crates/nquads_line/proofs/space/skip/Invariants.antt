use Rattle.std.proofs.Common.{◌≡◌, drop}
use Rattle.nquads_line.specs.Reading.{skip}
use Rattle.nquads_line.proofs.space.skip.Given as goal

abbrev pub invariant-loop-i : goal.invariant-loop-i
invariant-loop-i l = skip (drop l.i l.chars) ≡ skip l.chars
