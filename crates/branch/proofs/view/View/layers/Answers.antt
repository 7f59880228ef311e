use Rattle.std.proofs.Common.{map, subst}
use Rattle.std.specs.Arc.{arc_value}
use Rattle.std.specs.List.Sorted.{IsStrictlySortedBy}
use Rattle.rdf_term.specs.Order.{quad_cmp}
use Rattle.branch.specs.Layers.{Layered}
use Rattle.branch.proofs.LayerLemmas.{sorted-layered}
use Rattle.branch.proofs.view.View.layers.Goals as goal

pub returns-clause-ascending : goal.returns-clause-ascending
returns-clause-ascending c =
    subst (λ (it : Layered). IsStrictlySortedBy quad_cmp it.quads) c.self.view_is
    (sorted-layered c.self.inside.base.value.quads (map arc_value c.self.inside.layers.items) c.self.invariant)
