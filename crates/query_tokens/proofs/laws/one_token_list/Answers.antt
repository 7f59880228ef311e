use Rattle.query_tokens.proofs.Unique.{one_list}
use Rattle.query_tokens.proofs.laws.one_token_list.Goals as goal

pub returns : goal.returns
returns c = one_list
