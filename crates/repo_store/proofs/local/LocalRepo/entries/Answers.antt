use Rattle.std.proofs.Common.{subst}
use Rattle.journal.specs.Legal.{IsLegal}
use Rattle.iso_txn.specs.Repository.{Repository}
use Rattle.repo_store.proofs.local.LocalRepo.entries.Goals as goal

pub returns-clause-legal : goal.returns-clause-legal
returns-clause-legal c = subst (λ (repo : Repository). IsLegal repo.journal) c.self.view_is c.self.invariant.legal
