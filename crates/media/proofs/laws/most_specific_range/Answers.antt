use Rattle.media.proofs.RangeLaws.{most_specific}
use Rattle.media.proofs.laws.most_specific_range.Goals as goal

pub returns : goal.returns
returns c = most_specific
