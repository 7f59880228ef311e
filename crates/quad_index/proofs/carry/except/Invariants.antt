use Rattle.std.proofs.Common.{◌≡◌, not, take}
use Rattle.std.specs.List.{filter, list_any}
use Rattle.std.specs.Ordering.{eq_by_cmp}
use Rattle.quad_index.specs.Codes.{code_cmp}
use Rattle.quad_index.proofs.carry.except.Given as goal

abbrev pub invariant-loop-code : goal.invariant-loop-code
invariant-loop-code l = l.rest.items ≡ filter (λ k. not (list_any (eq_by_cmp code_cmp k) l.others)) (take l.code-index l.codes)
