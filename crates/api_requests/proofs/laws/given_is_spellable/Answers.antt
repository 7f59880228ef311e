use Rattle.api_requests.proofs.Given.{given_is_spellable}
use Rattle.api_requests.proofs.laws.given_is_spellable.Goals as goal

pub returns : goal.returns
returns c =
    given_is_spellable (record {
      terms = c.terms_are_valid.ensures;
      documents = c.documents_are_valid.ensures;
      parsed = c.parsed_queries_are_well_formed.ensures;
    })
