use Rattle.repo_api.proofs.OriginLemmas.{on_one_of_these}
use Rattle.repo_api.proofs.laws.calls_are_on_repositories.Goals as goal

pub returns : goal.returns
returns c = on_one_of_these
