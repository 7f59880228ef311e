use Rattle.nquads.proofs.DocumentLemmas.{refused_or_read, document_refused}
use Rattle.nquads.proofs.laws.is_refused_or_read.Goals as goal

pub returns : goal.returns
returns c = record { one = refused_or_read c.lines_are_decided.ensures; not_both = document_refused }
