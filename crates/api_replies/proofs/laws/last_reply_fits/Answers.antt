use Rattle.api_replies.proofs.FitLemmas.{last_fits}
use Rattle.api_replies.proofs.laws.last_reply_fits.Goals as goal

pub returns : goal.returns
returns c = last_fits c.each_entry_is_judged_once.ensures.count
