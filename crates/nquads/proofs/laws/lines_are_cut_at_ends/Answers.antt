use Rattle.nquads.proofs.CutLaw.{are_lines, lines_are}
use Rattle.std.proofs.Common.{subst, sym}
use Rattle.nquads.specs.Lines.{AreTextLines}
use Rattle.nquads.proofs.laws.lines_are_cut_at_ends.Goals as goal

pub returns : goal.returns
returns c = λ text lines. (lines_are text lines, λ e. subst (λ v. AreTextLines v text) (sym e) (are_lines text))
