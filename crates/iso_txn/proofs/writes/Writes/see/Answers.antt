use Rattle.std.proofs.Common.{List, subst}
use Rattle.iso_txn.specs.Kept.{Pending}
use Rattle.iso_txn.specs.Stacks.{IsStackFor}
use Rattle.iso_txn.proofs.StackLemmas.{seen_pushed}
use Rattle.iso_txn.proofs.writes.Writes.see.Goals as goal

pub invariant_of-self-in-Ok-2 : goal.invariant_of-self-in-Ok-2
invariant_of-self-in-Ok-2 c =
    let it = c.in-Ok.it in
    let stands : IsStackFor c.self.inside.writes.items c.args.txn it.stack = subst (λ (ws : List Pending). IsStackFor ws c.args.txn it.stack) c.deref-2.ensures.value c.in-Ok.ensures.stack in
    seen_pushed c.self.inside.writes.items c.self.inside.seen.items c.push.new.self.items it c.args.txn _ c.self.invariant c.in-Ok.ensures.txn stands c.push.ensures.items
