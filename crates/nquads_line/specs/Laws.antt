-- What holds of the grammar: one reading, or none, of valid terms alone, and that what is written is read again.
use Rattle.std.specs.Prelude.{◌≡◌, ℕ, ◌⊎◌, List, ◌++◌, Option, Some, IsTrue, codes, encode_utf8_all}
use Rattle.std.specs.Str.{all_scalars}
use Rattle.rdf_term.specs.declared.term.Term.{Term}
use Rattle.rdf_term.specs.Statement.{Statement, IsStatement}
use Rattle.rdf_term.specs.Canonical.{term_text, canonical_line}
use Rattle.rdf_term.specs.Validity.{IsValidTerm, IsValidQuad}
use Rattle.nquads_line.specs.declared.kind.Kind.{Kind}
use Rattle.nquads_line.specs.declared.kind.Kind.TheVariants.{Quads}
use Rattle.nquads_line.specs.Grammar.{IsLine, IsTerm, IsShortTerm, IsShortQuad, IsValidLine}

-- a line has at most one reading
abbrev pub OneLineReading : Type 0
OneLineReading = (kind : Kind) (bytes : List ℕ) (q r : Option Statement) → IsLine kind bytes q → IsLine kind bytes r → q ≡ r

-- a text is at most one term
abbrev pub OneTermReading : Type 0
OneTermReading = (bytes : List ℕ) (t u : Term) → IsTerm bytes t → IsTerm bytes u → t ≡ u

-- the text of a valid term is read as that term
abbrev pub TermsReadAgain : Type 0
TermsReadAgain = (t : Term) → IsValidTerm t → IsTerm (encode_utf8_all (term_text t)) t

-- the canonical line of a quad of valid terms, without its end, is read as that quad
abbrev pub QuadsReadAgain : Type 0
QuadsReadAgain = (q : Statement) (line : List ℕ) → IsStatement q.s q.p q.c → IsValidQuad q → canonical_line q ≡ line ++ codes "\n"
    → IsLine Quads (encode_utf8_all line) (Some q)

-- each text is a line with one of its readings, or it is none
abbrev pub LinesAreDecided : Type 0
LinesAreDecided = (kind : Kind) (bytes : List ℕ)
    → ((q : Option Statement) × IsLine kind bytes q) ⊎ ((q : Option Statement) → IsLine kind bytes q → ⊥)

-- the quad of a line is of valid terms where none of its parts is too long
abbrev pub LinesAreValid : Type 0
LinesAreValid = (kind : Kind) (bytes : List ℕ) (q : Option Statement) → IsLine kind bytes q → IsShortQuad q → IsValidLine q

-- a text's term is valid where none of its parts is too long
abbrev pub TermsAreValid : Type 0
TermsAreValid = (bytes : List ℕ) (t : Term) → IsTerm bytes t → IsShortTerm t → IsValidTerm t

-- the text of a valid term is of Unicode scalar values
abbrev pub TextsAreScalars : Type 0
TextsAreScalars = (t : Term) → IsValidTerm t → IsTrue (all_scalars (term_text t))
