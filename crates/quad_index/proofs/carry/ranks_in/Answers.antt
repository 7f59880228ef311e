use Rattle.std.proofs.Common.{ℕ, ◌+◌, List, sym, subst, take}
use Rattle.quad_index.specs.Carry.{AreRanks}
use Rattle.quad_index.proofs.CarryLemmas.{ranks_more}
use Rattle.quad_index.proofs.carry.ranks_in.Goals as goal

pub loop-term-preserved : goal.loop-term-preserved
loop-term-preserved c =
    subst (λ (ranks : List ℕ). AreRanks c.args.terms.now (take (c.loop-term.term-index + 1) c.args.others.now) ranks) (sym c.in_ok-push.ensures.items)
    (ranks_more c.args.terms.now c.args.others.now c.loop-term.ranks.items c.loop-term.term-index c.term-item.result c.rank_behind-near.result c.loop-term-test.true c.term-item.is
    c.loop-term.invariant c.rank_behind-near.ensures)
