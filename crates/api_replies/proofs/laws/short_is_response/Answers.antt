use Rattle.api_replies.proofs.ShortLemmas.{shorts_are_responses}
use Rattle.api_replies.proofs.laws.short_is_response.Goals as goal

pub returns : goal.returns
returns c = shorts_are_responses
