use Rattle.std.proofs.Common.{take}
use Rattle.iso_txn.specs.Stacks.{IsStackFor}
use Rattle.iso_txn.proofs.seen.stack_of.Given as goal

abbrev pub invariant-loop-write : goal.invariant-loop-write
invariant-loop-write l = IsStackFor (take l.write-index l.writes) l.txn l.stack
