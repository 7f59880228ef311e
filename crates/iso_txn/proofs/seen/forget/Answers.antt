use Rattle.std.proofs.Common.{rules, not}
use Rattle.std.proofs.lemmas.Fn.{filter_same}
use Rattle.iso_txn.specs.declared.seen.Seen.{Seen}
use Rattle.iso_txn.specs.Kept.{sees}
use Rattle.iso_txn.proofs.StackLemmas.{seen_left}
use Rattle.iso_txn.proofs.seen.forget.Goals as goal

pub returns : goal.returns
returns c = seen_left c.args.txn _ _ (filter_same _ (λ (it : Seen). not (sees it.txn c.args.txn)) _ (λ it b f r. search rules) _ _ c.retain.ensures.filtered)
