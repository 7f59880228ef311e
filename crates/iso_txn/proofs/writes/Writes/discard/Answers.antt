use Rattle.std.proofs.Common.{◌≡◌, List, false, sym, ◌∙◌, subst, ap, rules}
use Rattle.std.specs.List.{list_any}
use Rattle.journal.specs.Levels.{is_txn}
use Rattle.iso_txn.specs.Kept.{Pending, pending_without}
use Rattle.iso_txn.specs.Stacks.{AreSeen}
use Rattle.iso_txn.proofs.StackLemmas.{without_none}
use Rattle.iso_txn.proofs.writes.Writes.discard.Goals as goal

pub invariant_of-self : goal.invariant_of-self
invariant_of-self c = subst (λ (ws : List Pending). AreSeen ws c.forget.new.seen.items) (sym c.discard.ensures) (c.forget.ensures c.self.inside.writes.items c.self.invariant)

pub invariant_of-self-else-eq : goal.invariant_of-self-else-eq
invariant_of-self-else-eq c = subst (λ (ws : List Pending). AreSeen ws c.forget.new.seen.items) (sym c.discard.ensures) (c.forget.ensures c.self.inside.writes.items c.self.invariant)

pub returns-then-not-is_writing : goal.returns-then-not-is_writing
returns-then-not-is_writing c =
    let off : c.is_writing.result ≡ false = search rules in
    let none : list_any (λ (w : Pending). is_txn w.txn c.args.txn) c.self.inside.writes.items ≡ false =
    ap (list_any (λ (w : Pending). is_txn w.txn c.args.txn)) (sym c.deref.ensures.value) ∙ (sym c.is_writing.ensures ∙ off) in
    subst (λ (ws : List Pending). ws ≡ pending_without c.args.txn ws) c.self.view_is (without_none c.args.txn c.self.inside.writes.items none)
