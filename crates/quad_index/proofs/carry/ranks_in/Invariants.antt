use Rattle.std.proofs.Common.{take}
use Rattle.quad_index.specs.Carry.{AreRanks}
use Rattle.quad_index.proofs.carry.ranks_in.Given as goal

abbrev pub invariant-loop-term : goal.invariant-loop-term
invariant-loop-term l = AreRanks l.terms (take l.term-index l.others) l.ranks.items
