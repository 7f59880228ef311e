use Rattle.std.proofs.Common.{[], sym, subst}
use Rattle.iso_txn.specs.Stacks.{IsStackOf}
use Rattle.iso_txn.proofs.StackLemmas.{stack_none, stack_more}
use Rattle.iso_txn.proofs.seen.stack_of.Goals as goal

pub loop-write-init : goal.loop-write-init
loop-write-init c = subst (λ stack. IsStackOf [] stack) (sym c.new-stack.ensures) stack_none

pub loop-write-preserved : goal.loop-write-preserved
loop-write-preserved c = stack_more c.args.txn c.args.writes.now c.loop-write.write-index c.write-item.result c.loop-write.stack c.push_seen.new.stack c.loop-write-test.true c.write-item.is c.loop-write.invariant c.in_ok-push_seen.ensures
