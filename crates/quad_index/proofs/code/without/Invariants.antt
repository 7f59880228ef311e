use Rattle.std.proofs.Common.{◌≡◌, not, take}
use Rattle.std.specs.List.{filter}
use Rattle.std.specs.Ordering.{eq_by_cmp}
use Rattle.quad_index.specs.Codes.{code_cmp}
use Rattle.quad_index.proofs.code.without.Given as goal

abbrev pub invariant-loop-kept : goal.invariant-loop-kept
invariant-loop-kept l = l.rest.items ≡ filter (λ k. not (eq_by_cmp code_cmp k l.code)) (take l.kept-index l.codes)
