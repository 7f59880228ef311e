use Rattle.std.proofs.Common.{take}
use Rattle.quad_index.specs.Carry.{AreCodesOf}
use Rattle.quad_index.proofs.carry.known_codes.Given as goal

abbrev pub invariant-loop-quad : goal.invariant-loop-quad
invariant-loop-quad l = AreCodesOf l.terms (take l.quad-index l.quads) l.codes.items
