use Rattle.repo_api.proofs.ValidLemmas.{writes_are_valid}
use Rattle.repo_api.proofs.laws.writes_are_valid.Goals as goal

pub returns : goal.returns
returns c = writes_are_valid c.terms_are_valid.ensures c.documents_are_valid.ensures
