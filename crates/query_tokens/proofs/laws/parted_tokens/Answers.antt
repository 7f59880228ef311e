use Rattle.query_tokens.proofs.Apart.{stands_apart}
use Rattle.query_tokens.proofs.laws.parted_tokens.Goals as goal

pub returns : goal.returns
returns c = stands_apart
