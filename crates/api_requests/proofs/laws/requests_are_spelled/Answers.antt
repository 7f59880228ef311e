use Rattle.api_requests.proofs.SpelledLemmas.{requests_are_spelled}
use Rattle.api_requests.proofs.laws.requests_are_spelled.Goals as goal

pub returns : goal.returns
returns c = requests_are_spelled
