use Rattle.std.proofs.Common.{◌≡◌, ◌++◌, ℕ, List, length}
use Rattle.nquads_line.specs.declared.kind.Kind.{Kind}
use Rattle.nquads.specs.State.{Stands, Feeds, AppendsValid}
use Rattle.nquads.proofs.reader.LineReader.take_piece.Given as goal

abbrev pub invariant-loop-line : goal.invariant-loop-line
invariant-loop-line l =
    (done : List ℕ) × (done ++ l.rest ≡ l.piece)
    × ((kind : Kind) (taken : List ℕ) → Stands l.fn.self kind taken → Feeds kind taken done l.self l.fn.out l.out)
    × AppendsValid l.fn.out l.out

abbrev pub decreases-loop-line : goal.decreases-loop-line
decreases-loop-line l = length l.rest
