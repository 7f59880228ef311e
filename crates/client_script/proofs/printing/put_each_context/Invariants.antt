use Rattle.std.proofs.Common.{◌≡◌, ◌++◌, take}
use Rattle.std.specs.List.{flat_map}
use Rattle.client_script.specs.Printed.{line, term_bytes}
use Rattle.client_script.proofs.printing.put_each_context.Given as goal

abbrev pub invariant-loop-name : goal.invariant-loop-name
invariant-loop-name l = l.out.items ≡ l.fn.out.items ++ flat_map (λ t. line (term_bytes t)) (take l.name-index l.names)
