use Rattle.std.proofs.Common.{◌≡◌, ◌++◌}
use Rattle.iso_txn.proofs.prefixes.listed.Given as goal

abbrev pub invariant-loop-prefix : goal.invariant-loop-prefix
invariant-loop-prefix l = l.pairs ++ l.prefix-iterator ≡ l.names.entries
