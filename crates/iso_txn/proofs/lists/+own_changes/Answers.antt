use Rattle.std.proofs.Common.{List, length, ◌/◌, subst}
use Rattle.change_set.specs.Content.{SameChanges}
use Rattle.journal.specs.Levels.{is_txn}
use Rattle.iso_txn.specs.Kept.{Pending, changes_where}
use Rattle.iso_txn.proofs.ListLemmas.{same_halves}
use Rattle.iso_txn.proofs.lists.+own_changes.Goals as goal

pub returns-in_ok-both-in_default : goal.returns-in_ok-both-in_default
returns-in_ok-both-in_default t c =
    let ws = c.args.writes.now in
    let older = c.in_ok-older-in_default.older in
    let newer = c.in_ok-newer-in_default.newer in
    same_halves (is_txn c.args.txn) ws (length ws / 2) c.in_ok-both-in_default.both older newer c.in_ok-both-in_default.ensures
    (subst (λ (xs : List Pending). SameChanges older (changes_where (is_txn c.args.txn) xs)) c.split_at.ensures.front c.in_ok-older-in_default.ensures)
    (subst (λ (xs : List Pending). SameChanges newer (changes_where (is_txn c.args.txn) xs)) c.split_at.ensures.back c.in_ok-newer-in_default.ensures)
