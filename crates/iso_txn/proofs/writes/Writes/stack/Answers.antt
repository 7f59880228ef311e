use Rattle.std.proofs.Common.{◌≡◌, List, Some, ap, ◌∙◌, sym, subst}
use Rattle.change_set.specs.declared.change.Change.{Change}
use Rattle.iso_txn.specs.Kept.{Pending}
use Rattle.iso_txn.specs.Stacks.{IsStackFor, find_seen}
use Rattle.iso_txn.proofs.StackLemmas.{found_stack}
use Rattle.iso_txn.proofs.writes.Writes.stack.Goals as goal

pub returns-in_ok-stack-in-Some : goal.returns-in_ok-stack-in-Some
returns-in_ok-stack-in-Some c =
    let s = c.self.inside in
    let it = c.in-Some.it.now in
    let found : find_seen c.args.txn s.seen.items ≡ Some it = sym (c.in-Some.ensures ∙ ap (find_seen c.args.txn) c.deref.ensures.value) in
    subst (λ (ws : List Pending). IsStackFor ws c.args.txn c.in_ok-stack-in-Some.stack) c.self.view_is
    (subst (λ (stack : List (List Change)). IsStackFor s.writes.items c.args.txn stack) (sym c.in_ok-stack-in-Some.ensures)
    (found_stack s.writes.items c.args.txn s.seen.items it c.self.invariant found))
