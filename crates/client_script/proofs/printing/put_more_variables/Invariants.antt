use Rattle.std.proofs.Common.{◌≡◌, ◌++◌, take, codes}
use Rattle.std.specs.List.{flat_map}
use Rattle.client_script.specs.Printed.{variable_text}
use Rattle.client_script.proofs.printing.put_more_variables.Given as goal

abbrev pub invariant-loop-name : goal.invariant-loop-name
invariant-loop-name l = l.out.items ≡ l.fn.out.items ++ flat_map (λ name. codes "\t" ++ variable_text name) (take l.name-index l.names)
