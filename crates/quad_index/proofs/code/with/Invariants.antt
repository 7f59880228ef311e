use Rattle.std.proofs.Common.{◌≡◌, take}
use Rattle.quad_index.proofs.code.with.Given as goal

abbrev pub invariant-loop-kept : goal.invariant-loop-kept
invariant-loop-kept l = l.more.items ≡ take l.kept-index l.codes
