use Rattle.shared_repo.proofs.SendLemmas.{shared_send, shared_sync}
use Rattle.shared_repo.proofs.laws.states_cross_threads.Goals as goal

-- the facts are of a row that a bound was met with: it owns and shares as the story does
pub returns-clause-send : goal.returns-clause-send
returns-clause-send c = shared_send (record { owned = c.crosses_threads.ensures.send.owned; leaving = λ k x w. tt })

pub returns-clause-sync : goal.returns-clause-sync
returns-clause-sync c = shared_sync (record { shared = c.crosses_threads.ensures.sync.shared })
