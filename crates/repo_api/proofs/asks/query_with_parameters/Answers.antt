use Rattle.std.proofs.Common.{sym, subst}
use Rattle.repo_api.specs.Names.{AreTexts}
use Rattle.repo_api.proofs.ParameterLemmas.{are_texts}
use Rattle.repo_api.proofs.CheckLemmas.{passes, exit}
use Rattle.repo_api.proofs.asks.query_with_parameters.Goals as goal

pub query_in-requires : goal.query_in-requires
query_in-requires c =
    subst AreTexts (sym c.in_ok-parameters.ensures) (are_texts c.args.request.now)

pub returns-in_err-query : goal.returns-in_err-query
returns-in_err-query c =
    exit _ _ c.from_residual-in_err-query.result c.in_err-query.field-0.0 c.from_residual-in_err-query.ensures.1 (rw c.in_ok-parameters.ensures at c.in_err-query.ensures)

pub returns : goal.returns
returns c =
    passes _ _ c.gets_among.result c.in_ok-query.query (rw c.in_ok-parameters.ensures at c.in_ok-query.ensures)
    (rw c.forms_of-offers.ensures at c.gets_among.ensures)
