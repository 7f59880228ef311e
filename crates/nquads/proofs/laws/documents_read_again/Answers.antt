use Rattle.std.proofs.lemmas.List.Elements.{recursion_from_All}
use Rattle.nquads.specs.Written.{IsWritable}
use Rattle.nquads.proofs.AgainLemmas.{document_again}
use Rattle.nquads.proofs.laws.documents_read_again.Goals as goal

pub returns : goal.returns
returns c = λ kind quads h. document_again kind quads (recursion_from_All IsWritable quads h)
