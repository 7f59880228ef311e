use Rattle.std.proofs.Common.{◌≡◌, List, subst, rules}
use Rattle.std.specs.List.Sorted.{IsStrictlySortedBy}
use Rattle.rdf_term.specs.Statement.{Statement}
use Rattle.rdf_term.specs.Order.{quad_cmp}
use Rattle.change_set.specs.declared.change.Change.{Change}
use Rattle.change_set.specs.Content.{applied}
use Rattle.branch.specs.Layers.{layered}
use Rattle.iso_txn.specs.Kept.{Pending}
use Rattle.iso_txn.specs.Stacks.{IsHigher}
use Rattle.iso_txn.proofs.StackLemmas.{higher_same}
use Rattle.iso_txn.proofs.pending.PendingWrite.push_onto.Goals as goal

pub returns : goal.returns
returns c =
    let s = c.self.inside in
    let old = c.args.stack.now in
    let new = c.push_shared.new.self in
    let shared : c.in_ok-set.set.value ≡ s.set.value = search rules in
    subst (λ (w : Pending). IsHigher old w.changes new) c.self.view_is
    (higher_same old new s.set.value s.changes.value c.self.invariant
    (subst (λ (set : List Change). (base : List Statement) → IsStrictlySortedBy quad_cmp base → layered base new ≡ applied (layered base old) set) shared c.in_ok-push_shared.ensures.content))
