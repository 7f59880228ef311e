use Rattle.nquads.specs.Lines.{lines_of}
use Rattle.nquads.proofs.DocumentLemmas.{lines_once}
use Rattle.nquads.proofs.laws.one_reading.Goals as goal

pub returns : goal.returns
returns c = λ kind bytes qs rs. lines_once kind (lines_of bytes) qs rs
