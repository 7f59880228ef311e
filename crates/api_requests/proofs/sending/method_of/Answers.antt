use Rattle.api_requests.proofs.SendingLemmas.{named}
use Rattle.api_requests.proofs.sending.method_of.Goals as goal

pub returns : goal.returns
returns c = named c.args.verb c.verb_text.result c.verb_text.ensures
