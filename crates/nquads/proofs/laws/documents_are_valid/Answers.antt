use Rattle.nquads.specs.Lines.{lines_of}
use Rattle.nquads.proofs.DocumentLemmas.{lines_valid}
use Rattle.nquads.proofs.laws.documents_are_valid.Goals as goal

pub returns : goal.returns
returns c = λ kind bytes quads h. lines_valid c.lines_are_valid.ensures kind (lines_of bytes) quads h
