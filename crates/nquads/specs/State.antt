-- What a reader of pieces has taken, and what a further piece means.
use Rattle.std.specs.Prelude.{◌≡◌, ℕ, ◌+◌, ◌-◌, ◌^◌, List, [], ◌∷◌, ◌++◌, Option, None, Bool, false, min, length}
use Rattle.std.specs.List.{All}
use Rattle.std.specs.Option.{option_to_list}
use Rattle.rdf_term.specs.Statement.{Statement}
use Rattle.rdf_term.specs.Validity.{IsValidQuad}
use Rattle.nquads_line.specs.declared.kind.Kind.{Kind}
use Rattle.nquads.specs.declared.fault.DataFault.{DataFault}
use Rattle.nquads.specs.Lines.{cut, ends_in_cr}
use Rattle.nquads_line.specs.Grammar.{IsLine, IsShortQuad}
use Rattle.nquads.specs.Documents.{AreLines, IsRefused, line_number}

-- a reader as contracts see it: the bytes of the line that has not ended, whether a CR came last, how many lines ended, and its fault
pub record Reader : Type 0 where
  pub kind : Kind
  pub line : List ℕ
  pub after_cr : Bool
  pub ended : ℕ
  pub fault : Option DataFault

-- a reader that has taken nothing
abbrev pub new_reader : Kind → Reader
new_reader kind = record { kind = kind; line = []; after_cr = false; ended = 0; fault = None }

-- the reader has taken these bytes, and found no fault
pub record Stands (reader : Reader) (kind : Kind) (taken : List ℕ) : Type 0 where
  pub kind_is : reader.kind ≡ kind
  pub line : reader.line ≡ (cut taken).rest
  pub after_cr : reader.after_cr ≡ ends_in_cr taken
  pub ended : reader.ended ≡ min (length (cut taken).ended) (2 ^ 64 - 1)
  pub no_fault : reader.fault ≡ None

-- the piece ended these lines of a text that began with the bytes taken, and their quads were appended
pub record Feeds (kind : Kind) (taken piece : List ℕ) (reader : Reader) (before after : List Statement) : Type 0 where
  pub stands : Stands reader kind (taken ++ piece)
  pub lines : List (List ℕ)
  pub quads : List Statement
  pub ended : (cut (taken ++ piece)).ended ≡ (cut taken).ended ++ lines
  pub read : AreLines kind lines quads
  pub appended : after ≡ before ++ quads

-- the fault names the first line refused among those that the piece ended; the quads of the lines before it were appended
pub record FailsAt (kind : Kind) (taken piece : List ℕ) (fault : DataFault) (before after : List Statement) : Type 0 where
  pub good : List (List ℕ)
  pub bad : List ℕ
  pub later : List (List ℕ)
  pub quads : List Statement
  pub ended : (cut (taken ++ piece)).ended ≡ (cut taken).ended ++ (good ++ bad ∷ later)
  pub read : AreLines kind good quads
  pub refused : IsRefused kind bad (line_number (length (cut taken).ended + length good)) fault
  pub appended : after ≡ before ++ quads

-- the quads of some of the first lines that the piece ended were appended
pub record Stops (kind : Kind) (taken piece : List ℕ) (before after : List Statement) : Type 0 where
  pub good : List (List ℕ)
  pub later : List (List ℕ)
  pub quads : List Statement
  pub ended : (cut (taken ++ piece)).ended ≡ (cut taken).ended ++ (good ++ later)
  pub read : AreLines kind good quads
  pub appended : after ≡ before ++ quads

-- what stands after the last end is a line too, and its quad, where it has one, was appended
pub record Finishes (kind : Kind) (taken : List ℕ) (before after : List Statement) : Type 0 where
  pub quad : Option Statement
  pub read : IsLine kind (cut taken).rest quad
  pub short : IsShortQuad quad
  pub appended : after ≡ before ++ option_to_list quad

-- quads of valid terms were appended, and nothing else
pub record AppendsValid (before after : List Statement) : Type 0 where
  pub quads : List Statement
  pub appended : after ≡ before ++ quads
  pub valid : All IsValidQuad quads
