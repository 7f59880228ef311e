use Rattle.std.proofs.Common.{◌≡◌, length}
use Rattle.std.specs.Option.{option_copied}
use Rattle.rdf_term.specs.Order.{quad_cmp}
use Rattle.conflict.specs.Clashes.{lesser, least_observed, quads_above}
use Rattle.conflict.proofs.search.least_above.Given as goal

abbrev pub invariant-loop-logged : goal.invariant-loop-logged
invariant-loop-logged l = lesser quad_cmp (option_copied l.least) (least_observed l.patterns (quads_above l.from l.left)) ≡ least_observed l.patterns (quads_above l.from l.kept)

abbrev pub decreases-loop-logged : goal.decreases-loop-logged
decreases-loop-logged l = length l.left
