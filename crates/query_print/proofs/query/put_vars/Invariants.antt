use Rattle.std.proofs.Common.{◌≡◌, ◌++◌, map, take}
use Rattle.query_print.specs.Printed.{spaced, var_text}
use Rattle.query_print.proofs.query.put_vars.Given as goal

abbrev pub invariant-loop-name : goal.invariant-loop-name
invariant-loop-name l = l.out ≡ l.fn.out ++ spaced (map var_text (take l.name-index l.vars))
