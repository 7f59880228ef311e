use Rattle.query_tokens.proofs.Exist.{each_left}
use Rattle.query_tokens.proofs.laws.each_has_tokens.Goals as goal

pub returns : goal.returns
returns c = each_left
