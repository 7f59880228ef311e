use Rattle.media.proofs.ElementLaws.{one_range}
use Rattle.media.proofs.laws.one_range.Goals as goal

pub returns : goal.returns
returns c = one_range
