use Rattle.repo_store.proofs.SeatLemmas.{first_is_next}
use Rattle.repo_store.proofs.laws.first_step_is_next.Goals as goal

pub returns : goal.returns
returns c = first_is_next
