use Rattle.std.proofs.Common.{◌≡◌, ◌↔◌, ◌∙◌, List, sym, subst}
use Rattle.std.specs.Prelude.{Contains}
use Rattle.std.specs.Ordering.{eq_by_cmp}
use Rattle.std.specs.List.Sorted.{IsPermutation, IsStrictlySortedBy}
use Rattle.std.proofs.lemmas.List.Filters.{dedup_is}
use Rattle.rdf_term.specs.Order.{quad_cmp}
use Rattle.rdf_term.specs.OrderLaws.{quad_total, quad_exact}
use Rattle.rdf_term.specs.Sets.{in_order}
use Rattle.rdf_term.specs.Statement.{Statement}
use Rattle.rdf_term.proofs.SetLemmas.{sorted_set-dedup, sorted_set-sorted, Contains-sorted_set}
use Rattle.rdf_term.proofs.quads.Seq+Quad.into_set.Goals as goal

pub returns : goal.returns
returns c =
    let e : c.from_vec.result ≡ in_order c.args.self =
    c.from_vec.ensures
    ∙ dedup_is (eq_by_cmp quad_cmp) c.sort.new.self.items c.dedup.new.self.items c.dedup.ensures.filtered
    ∙ sorted_set-dedup quad_total quad_exact c.args.self c.sort.new.self.items
    (subst (λ (quads : List Statement). IsPermutation quads c.sort.new.self.items) c.into_vec-quads.ensures c.sort.ensures.permutation)
    c.in_ok-sort.ensures.sorted in
    record {
      value = e;
      ascending = subst (λ (set : List Statement). IsStrictlySortedBy quad_cmp set) (sym e) (sorted_set-sorted quad_total quad_exact c.args.self);
      members = subst (λ (set : List Statement). (q : Statement) → Contains set q ↔ Contains c.args.self q) (sym e) (Contains-sorted_set quad_total quad_exact c.args.self);
    }
