use Rattle.std.proofs.Common.{◌≡◌, false, rules, sym, ◌∙◌}
use Rattle.iso_txn.proofs.StackLemmas.{higher_unseen}
use Rattle.iso_txn.proofs.seen.push_seen.Goals as goal

pub returns-then-not-is_seen : goal.returns-then-not-is_seen
returns-then-not-is_seen c =
    let off : c.is_seen.result ≡ false = search rules in
    higher_unseen c.args.txn c.args.write.now c.args.stack.now (sym c.is_seen.ensures ∙ off)
