use Rattle.repo_store.proofs.SeatLemmas.{stays}
use Rattle.repo_store.proofs.laws.next_step_stays.Goals as goal

pub returns : goal.returns
returns c = stays c.each_entry_is_judged_once.ensures
