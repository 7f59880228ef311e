use Rattle.std.proofs.Common.{◌++◌, length, map}
use Rattle.rdf_term.specs.Statement.{Statement}
use Rattle.change_set.specs.Kept.{marked}
use Rattle.change_set.specs.Content.{SameChanges}
use Rattle.change_set.proofs.gathered.Gathered.add_each.Given as goal

abbrev pub invariant-loop-quad : goal.invariant-loop-quad
invariant-loop-quad l = SameChanges (map (λ (q : Statement). marked q l.mark) l.left ++ l.self) (map (λ (q : Statement). marked q l.mark) l.quads ++ l.fn.self)

abbrev pub decreases-loop-quad : goal.decreases-loop-quad
decreases-loop-quad l = length l.left
