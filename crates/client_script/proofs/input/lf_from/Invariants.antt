use Rattle.std.proofs.Common.{◌≡◌, false, take}
use Rattle.client_script.specs.Waits.{has_lf}
use Rattle.client_script.proofs.input.lf_from.Given as goal

abbrev pub invariant-loop-place : goal.invariant-loop-place
invariant-loop-place l = has_lf (take l.place l.bytes) ≡ false
