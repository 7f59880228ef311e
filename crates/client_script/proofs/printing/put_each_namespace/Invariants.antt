use Rattle.std.proofs.Common.{◌≡◌, ◌++◌, take}
use Rattle.std.specs.List.{flat_map}
use Rattle.client_script.specs.Printed.{namespace_line}
use Rattle.client_script.proofs.printing.put_each_namespace.Given as goal

abbrev pub invariant-loop-pair : goal.invariant-loop-pair
invariant-loop-pair l = l.out.items ≡ l.fn.out.items ++ flat_map namespace_line (take l.pair-index l.pairs)
