use Rattle.std.proofs.Common.{rules}
use Rattle.iso_txn.proofs.StackLemmas.{seen_followed}
use Rattle.iso_txn.proofs.seen.follow.Goals as goal

pub returns : goal.returns
returns c = seen_followed _ c.args.write.now _ (λ it b f new r. search rules) _ _ c.retain_mut.ensures.filtered
