-- What holds of documents and of readers of them.
use Rattle.std.specs.Prelude.{◌≡◌, ◌↔◌, ℕ, ◌⊎◌, List, ◌++◌, Option, length, encode_utf8_all}
use Rattle.std.specs.List.{All, concat}
use Rattle.rdf_term.specs.Statement.{Statement}
use Rattle.rdf_term.specs.Validity.{IsValidQuad}
use Rattle.nquads_line.specs.declared.kind.Kind.{Kind}
use Rattle.nquads.specs.declared.fault.DataFault.{DataFault}
use Rattle.nquads.specs.Lines.{AreTextLines, cut, lines_of}
use Rattle.nquads.specs.Documents.{IsDocument, FirstBad, IsAnswer, IsRefused, line_number}
use Rattle.nquads.specs.State.{Reader, new_reader, Feeds, FailsAt, Finishes}
use Rattle.nquads.specs.Courses.{Course}
use Rattle.nquads.specs.Written.{document_text, read_again, IsWritable}

-- the lines of a text are what its ends, CR LF, CR and LF, leave of it
abbrev pub LinesAreCutAtEnds : Type 0
LinesAreCutAtEnds = (text : List ℕ) (lines : List (List ℕ)) → AreTextLines lines text ↔ (lines ≡ lines_of text)

-- a document has one reading
abbrev pub OneReading : Type 0
OneReading = (kind : Kind) (bytes : List ℕ) (qs rs : List Statement) → IsDocument kind bytes qs → IsDocument kind bytes rs → qs ≡ rs

-- its quads are of valid terms
abbrev pub DocumentsAreValid : Type 0
DocumentsAreValid = (kind : Kind) (bytes : List ℕ) (quads : List Statement) → IsDocument kind bytes quads → All IsValidQuad quads

-- a text has at most one first bad line, with one fault
abbrev pub OneFirstBadLine : Type 0
OneFirstBadLine =
    (kind : Kind) (bytes : List ℕ) (fault other : DataFault) → FirstBad kind bytes fault → FirstBad kind bytes other → fault ≡ other

-- each text is a document, or it has a first bad line
abbrev pub RefusedOrRead : Type 0
RefusedOrRead = (kind : Kind) (bytes : List ℕ)
    → ((quads : List Statement) × IsDocument kind bytes quads) ⊎ ((fault : DataFault) × FirstBad kind bytes fault)

-- and no text is both
abbrev pub NotBoth : Type 0
NotBoth = (kind : Kind) (bytes : List ℕ) (qs : List Statement) (fault : DataFault) → IsDocument kind bytes qs → FirstBad kind bytes fault → ⊥

-- however a text comes in pieces, the last answer is that to the whole text, and the quads that were appended are that answer's
abbrev pub AnyPieces : Type 0
AnyPieces = (kind : Kind) (bytes : List ℕ) (pieces : List (List ℕ)) (answer : Option DataFault) (before after : List Statement)
    → concat pieces ≡ bytes → Course (new_reader kind) pieces answer before after
    → (quads : List Statement) × (after ≡ before ++ quads) × IsAnswer kind bytes answer quads

-- a text has one answer
abbrev pub OneAnswer : Type 0
OneAnswer = (kind : Kind) (bytes : List ℕ) (answer other : Option DataFault) (qs rs : List Statement)
    → IsAnswer kind bytes answer qs → IsAnswer kind bytes other rs → (answer ≡ other) × (qs ≡ rs)

-- a piece that is refused after these bytes is refused by one fault, after the same quads
abbrev pub OneFault : Type 0
OneFault = (kind : Kind) (taken piece : List ℕ) (fault other : DataFault) (before after before' after' : List Statement)
    → FailsAt kind taken piece fault before after → FailsAt kind taken piece other before' after' → fault ≡ other

abbrev pub OneListBeforeAFault : Type 0
OneListBeforeAFault = (kind : Kind) (taken piece : List ℕ) (fault other : DataFault) (before after after' : List Statement)
    → FailsAt kind taken piece fault before after → FailsAt kind taken piece other before after' → after ≡ after'

-- a piece that is taken leaves one reader, and one list of quads
abbrev pub OneTaking : Type 0
OneTaking = (kind : Kind) (taken piece : List ℕ) (reader other : Reader) (before after after' : List Statement)
    → Feeds kind taken piece reader before after → Feeds kind taken piece other before after' → (reader ≡ other) × (after ≡ after')

-- no piece is taken and refused
abbrev pub PieceRefusedOrTaken : Type 0
PieceRefusedOrTaken = (kind : Kind) (taken piece : List ℕ) (fault : DataFault) (reader : Reader) (before after before' after' : List Statement)
    → Feeds kind taken piece reader before after → FailsAt kind taken piece fault before' after' → ⊥

-- the same of the end
abbrev pub OneEnd : Type 0
OneEnd = (kind : Kind) (taken : List ℕ) (before after after' : List Statement)
    → Finishes kind taken before after → Finishes kind taken before after' → after ≡ after'

abbrev pub OneFaultAtTheEnd : Type 0
OneFaultAtTheEnd = (kind : Kind) (taken : List ℕ) (fault other : DataFault)
    → IsRefused kind (cut taken).rest (line_number (length (cut taken).ended)) fault
    → IsRefused kind (cut taken).rest (line_number (length (cut taken).ended)) other → fault ≡ other

abbrev pub EndRefusedOrTaken : Type 0
EndRefusedOrTaken = (kind : Kind) (taken : List ℕ) (fault : DataFault) (before after : List Statement)
    → Finishes kind taken before after → IsRefused kind (cut taken).rest (line_number (length (cut taken).ended)) fault → ⊥

-- what is written of writable quads is read again
abbrev pub DocumentsReadAgain : Type 0
DocumentsReadAgain = (kind : Kind) (quads : List Statement) → All IsWritable quads
    → IsDocument kind (encode_utf8_all (document_text kind quads)) (read_again kind quads)
