use Rattle.std.proofs.Common.{rules, not}
use Rattle.std.proofs.lemmas.Fn.{filter_same}
use Rattle.journal.specs.Levels.{is_txn}
use Rattle.iso_txn.specs.Kept.{Opened}
use Rattle.iso_txn.proofs.lists.close.Goals as goal

pub returns : goal.returns
returns c = filter_same _ (λ (it : Opened). not (is_txn it.txn c.args.txn)) _ (λ it b f r. search rules) _ _ c.retain.ensures.filtered
