use Rattle.api_requests.proofs.LawLemmas.{where_given}
use Rattle.api_requests.proofs.laws.spellable_where_given.Goals as goal

pub returns : goal.returns
returns c = where_given c.written_is_read_back.ensures c.given_is_spellable.ensures
