use Rattle.std.proofs.Common.{◌≡◌, Some, ap, ◌∙◌}
use Rattle.iso_txn.specs.Kept.{Kept, seen, find_open}
use Rattle.iso_txn.proofs.StackLemmas.{view_seen}
use Rattle.iso_txn.proofs.state.State.view_in.Goals as goal

pub returns-in_ok-view-in-Some : goal.returns-in_ok-view-in-Some
returns-in_ok-view-in-Some c =
    let s = c.self.inside in
    let found : Some c.in-Some.opened.now ≡ find_open c.args.txn s.open_txns.items = c.in-Some.ensures ∙ ap (find_open c.args.txn) c.deref.ensures.value in
    view_seen s.content s.open_txns.items s.writes c.args.txn c.in-Some.opened.now c.in_ok-own-in-Some.own c.in_ok-view-in-Some.view.quads
    found c.in_ok-view-in-Some.ensures.quads c.in_ok-view-in-Some.ensures.ascending c.in_ok-own-in-Some.ensures
    ∙ ap (λ (k : Kept). seen k (Some c.args.txn)) c.self.view_is
