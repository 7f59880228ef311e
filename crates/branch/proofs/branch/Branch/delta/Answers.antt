use Rattle.std.proofs.Common.{◌&&◌, not, filter, subst, ap, ◌∙◌}
use Rattle.std.specs.List.Sorted.{IsStrictlySortedBy}
use Rattle.rdf_term.specs.Order.{quad_cmp}
use Rattle.rdf_term.specs.Matching.{matches}
use Rattle.rdf_term.specs.Sets.{in_order}
use Rattle.rdf_term.specs.Statement.{Statement}
use Rattle.quad_index.specs.Contents.{is_in}
use Rattle.change_set.specs.Content.{content, last_effect, is_removed}
use Rattle.branch.specs.Layers.{Layered}
use Rattle.branch.proofs.LayerLemmas.{sorted-layered, filter-everything}
use Rattle.branch.proofs.DeltaLemmas.{added_is, removed_is}
use Rattle.branch.proofs.branch.Branch.delta.Goals as goal

pub returns : goal.returns
returns c =
    let base = c.args.self.now.quads in
    let set = c.args.set.now in
    let ascending : IsStrictlySortedBy quad_cmp base =
    subst (λ (it : Layered). IsStrictlySortedBy quad_cmp it.quads) c.self.view_is
    (sorted-layered c.self.inside.base.value.quads c.self.inside.layers c.self.invariant) in
    record {
      added = c.absent.ensures
          ∙ ap (filter (λ (q : Statement). not (is_in q base)))
          (c.in_ok-scan.ensures.value ∙ ap (λ p. filter (matches p) (content set)) c.everything.ensures ∙ filter-everything (content set))
          ∙ added_is base set;
      removed = c.lost.ensures
          ∙ ap (λ qs. filter (λ (q : Statement). is_removed (last_effect set q) && is_in q base) qs)
          (c.in_ok-into_set.ensures.value ∙ ap in_order c.in_ok-candidates.ensures)
          ∙ removed_is base set ascending;
    }
