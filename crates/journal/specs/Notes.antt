-- The op of an entry that is in the proofs alone.
use Rattle.journal.specs.declared.op.Op.{Op}
use Rattle.journal.specs.declared.op.Op.TheVariants as op
use Rattle.journal.specs.declared.noted.NotedOp.{NotedOp}
use Rattle.journal.specs.declared.noted.NotedOp.TheVariants.{Begin, Read, Step, Write, Commit, Rollback, Ping, Names}

-- the op of the values that were noted
abbrev pub noted_op : NotedOp → Op
noted_op (Begin level) = op.Begin level.value
noted_op (Read txn ask) = op.Read txn.value ask.value
noted_op (Step txn query number) = op.Step txn.value query.value number.value
noted_op (Write txn changes) = op.Write txn.value changes.value
noted_op (Commit txn) = op.Commit txn.value
noted_op (Rollback txn) = op.Rollback txn.value
noted_op (Ping txn) = op.Ping txn.value
noted_op (Names names) = op.Names names.value
