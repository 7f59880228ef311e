use Rattle.api_requests.proofs.WriteLemmas.{alone_decides}
use Rattle.api_requests.proofs.spellable.is_written_alone.Goals as goal

pub returns : goal.returns
returns c = alone_decides c.args.changes.now c.writes_alone.result c.writes_alone.ensures
