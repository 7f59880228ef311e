use Rattle.nquads_line.proofs.ValidLemmas.{whole_term_valid}
use Rattle.nquads_line.proofs.laws.terms_are_valid.Goals as goal

pub returns : goal.returns
returns c = whole_term_valid
