-- Documents of N-Triples and N-Quads (RDF 1.1), and the first line for which a text is none.
use Rattle.std.specs.Prelude.{◌≡◌, ℕ, ◌+◌, ◌-◌, ◌^◌, List, [], ◌∷◌, ◌++◌, Option, None, Some, min, length}
use Rattle.std.specs.Option.{option_to_list}
use Rattle.rdf_term.specs.Statement.{Statement}
use Rattle.nquads_line.specs.declared.kind.Kind.{Kind}
use Rattle.nquads.specs.declared.fault.DataFault.{DataFault}
use Rattle.nquads.specs.declared.fault.DataFault.TheVariants.{BadLine, TooLong, Memory}
use Rattle.nquads.specs.Lines.{lines_of}
use Rattle.nquads_line.specs.Grammar.{IsLine, IsShortQuad}

-- the lines are lines of the grammar with short parts, and these are their quads in order
abbrev pub AreLines : Kind → List (List ℕ) → List Statement → Type 0
AreLines kind [] quads = quads ≡ []
AreLines kind (line ∷ lines) quads =
    (quad : Option Statement) × (rest : List Statement) × IsLine kind line quad × IsShortQuad quad
    × (quads ≡ option_to_list quad ++ rest) × AreLines kind lines rest

-- the text is a document of this kind, which holds these quads in this order
abbrev pub IsDocument : Kind → List ℕ → List Statement → Type 0
IsDocument kind bytes quads = AreLines kind (lines_of bytes) quads

-- the number of the line after so many lines: lines are counted from 1, and the count stands still at the end of its type
abbrev pub line_number : ℕ → ℕ
line_number before = min (before + 1) (2 ^ 64 - 1)

-- the line, which has this number, is refused by this fault: it is no line of the grammar, or it is one with too long a part
abbrev pub IsRefused : Kind → List ℕ → ℕ → DataFault → Type 0
IsRefused kind line number (BadLine n) = (n ≡ number) × ((quad : Option Statement) → IsLine kind line quad → ⊥)
IsRefused kind line number (TooLong n) =
    (n ≡ number) × ((quad : Option Statement) × IsLine kind line quad × (IsShortQuad quad → ⊥))
IsRefused kind line number Memory = ⊥

-- the fault names the first line of the text that is refused: the lines before it, which hold these quads, are not
pub record FirstBad (kind : Kind) (bytes : List ℕ) (fault : DataFault) : Type 0 where
  pub good : List (List ℕ)
  pub bad : List ℕ
  pub later : List (List ℕ)
  pub quads : List Statement
  pub lines : lines_of bytes ≡ good ++ bad ∷ later
  pub read : AreLines kind good quads
  pub refused : IsRefused kind bad (line_number (length good)) fault

-- the answer to a text: its quads; or the fault of its first bad line, with the quads of the lines before that one
abbrev pub IsAnswer : Kind → List ℕ → Option DataFault → List Statement → Type 0
IsAnswer kind bytes None quads = IsDocument kind bytes quads
IsAnswer kind bytes (Some fault) quads = (bad : FirstBad kind bytes fault) × (bad.quads ≡ quads)

-- what an answer other than want of memory means
abbrev pub UnlessMemory : DataFault → Type 0 → Type 0
UnlessMemory (BadLine n) meaning = meaning
UnlessMemory (TooLong n) meaning = meaning
UnlessMemory Memory meaning = Unit {0}
