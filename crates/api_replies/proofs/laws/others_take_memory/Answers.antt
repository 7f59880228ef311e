use Rattle.api_replies.proofs.ShortLemmas.{others_take_memory}
use Rattle.api_replies.proofs.laws.others_take_memory.Goals as goal

pub returns : goal.returns
returns c = others_take_memory
