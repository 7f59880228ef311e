use Rattle.std.proofs.Common.{refl}
use Rattle.api_requests.proofs.WriteLemmas.{acted_decides}
use Rattle.api_requests.proofs.spellable.is_written_in.Goals as goal

pub returns : goal.returns
returns c =
    acted_decides c.args.txn c.args.changes.now c.are_additions-adds.result c.are_deletions-deletes.result _ c.are_additions-adds.ensures c.are_deletions-deletes.ensures refl
