-- A document in pieces: a reader takes one piece after another, and then the end.
use Rattle.std.specs.Prelude.{◌≡◌, ℕ, ◌⊎◌, List, [], ◌∷◌, Option, None, Some, length}
use Rattle.rdf_term.specs.Statement.{Statement}
use Rattle.nquads_line.specs.declared.kind.Kind.{Kind}
use Rattle.nquads.specs.declared.fault.DataFault.{DataFault}
use Rattle.nquads.specs.Lines.{cut}
use Rattle.nquads.specs.Documents.{IsRefused, line_number}
use Rattle.nquads.specs.State.{Reader, Stands, Feeds, FailsAt, Finishes}

-- a call of feed with this piece was good, left this reader, and made these quads of those; in the words of its clause
abbrev pub Takes : Reader → List ℕ → Reader → List Statement → List Statement → Type 0
Takes old piece new before after = (kind : Kind) (taken : List ℕ) → Stands old kind taken → Feeds kind taken piece new before after

-- it answered this fault of a line, or, where it answered none, there is no such call
abbrev pub RefusesPiece : Reader → List ℕ → Option DataFault → List Statement → List Statement → Type 0
RefusesPiece old piece None before after = ⊥
RefusesPiece old piece (Some fault) before after =
    (kind : Kind) (taken : List ℕ) → Stands old kind taken → FailsAt kind taken piece fault before after

-- a call of finish was good, or it answered this fault of a line and left the quads as they were
abbrev pub Ends : Reader → Option DataFault → List Statement → List Statement → Type 0
Ends old None before after = (kind : Kind) (taken : List ℕ) → Stands old kind taken → Finishes kind taken before after
Ends old (Some fault) before after =
    ((kind : Kind) (taken : List ℕ) → Stands old kind taken → IsRefused kind (cut taken).rest (line_number (length (cut taken).ended)) fault)
    × (after ≡ before)

-- the reader took these pieces, one call of feed after another, and then the end, up to the first fault; the last answer is
-- that fault, or none
abbrev pub Course : Reader → List (List ℕ) → Option DataFault → List Statement → List Statement → Type 0
Course old [] answer before after = Ends old answer before after
Course old (piece ∷ pieces) answer before after =
    RefusesPiece old piece answer before after
    ⊎ ((next : Reader) × (between : List Statement) × Takes old piece next before between × Course next pieces answer between after)
