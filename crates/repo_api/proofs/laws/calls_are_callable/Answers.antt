use Rattle.repo_api.proofs.CallableLemmas.{calls_are_callable}
use Rattle.repo_api.proofs.laws.calls_are_callable.Goals as goal

pub returns : goal.returns
returns c = calls_are_callable c.parsed_queries_are_well_formed.ensures c.few_lookups.ensures
