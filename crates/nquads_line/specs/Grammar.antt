-- The grammar of one line: RDF 1.1 N-Triples, section 7, and RDF 1.1 N-Quads, section 4.
use Rattle.std.specs.Prelude.{◌≡◌, ℕ, List, [], ◌∷◌, ◌++◌, Option, Some, None, Bool, IsTrue, codes, ◌&&◌, encode_utf8_all}
use Rattle.std.specs.List.{list_all}
use Rattle.std.specs.Str.{all_scalars}
use Rattle.rdf_term.specs.declared.term.Term.{Term}
use Rattle.rdf_term.specs.declared.term.Term.TheVariants.{Iri, Blank, Plain, Tagged, Typed}
use Rattle.rdf_term.specs.declared.graph.Graph.{Graph}
use Rattle.rdf_term.specs.declared.graph.Graph.TheVariants.{Absent, Named}
use Rattle.rdf_term.specs.Statement.{Statement, IsStatement}
use Rattle.rdf_term.specs.Terms.{first, second}
use Rattle.rdf_term.specs.Validity.{is_label, is_short, IsValidQuad}
use Rattle.nquads_line.specs.declared.kind.Kind.{Kind}
use Rattle.nquads_line.specs.declared.kind.Kind.TheVariants.{Triples, Quads}
use Rattle.nquads_line.specs.Terms.{IsTermText, is_blank, is_comment_char}

-- a blank node's label is the longest one that can stand there, before what comes after it
abbrev pub IsLongest : Term → List ℕ → Type 0
IsLongest (Blank label) after = (more rest : List ℕ) → after ≡ more ++ rest → IsTrue (is_label (label ++ more)) → more ≡ []
IsLongest (Iri t) after = Unit {0}
IsLongest (Plain t) after = Unit {0}
IsLongest (Tagged t u) after = Unit {0}
IsLongest (Typed t u) after = Unit {0}

-- nothing, or # and characters other than CR and LF
abbrev pub IsComment : List ℕ → Type 0
IsComment [] = Unit {0}
IsComment (c ∷ cs) = (c ≡ 35) × IsTrue (list_all is_comment_char cs)

-- ( graphLabel ws* )?, and no label in N-Triples
abbrev pub IsGraphText : Kind → List ℕ → Graph → Type 0
IsGraphText kind text Absent = text ≡ []
IsGraphText Triples text (Named name) = ⊥
IsGraphText Quads text (Named name) =
    (word blank : List ℕ) × (text ≡ word ++ blank) × IsTermText word name × IsTrue (is_blank blank)

-- ws* subject ws* predicate ws* object ws* ( graphLabel ws* )? '.' ws* comment?
-- Only after an object does the longest token decide: a label may be followed at once by another, or by the dot.
pub record IsStatementLine (kind : Kind) (text : List ℕ) (q : Statement) : Type 0 where
  pub s : List ℕ
  pub p' : List ℕ
  pub o : List ℕ
  pub c : List ℕ
  pub blank0 : List ℕ
  pub blank1 : List ℕ
  pub blank2 : List ℕ
  pub blank3 : List ℕ
  pub blank4 : List ℕ
  pub comment : List ℕ
  pub written : text ≡ blank0 ++ (s ++ (blank1 ++ (p' ++ (blank2 ++ (o ++ (blank3 ++ (c ++ (codes "." ++ (blank4 ++ comment)))))))))
  pub blanks : IsTrue (list_all is_blank (blank0 ∷ blank1 ∷ blank2 ∷ blank3 ∷ blank4 ∷ []))
  pub subject : IsTermText s q.s
  pub predicate : IsTermText p' q.p
  pub object : IsTermText o q.o
  pub graph : IsGraphText kind c q.c
  pub kinds : IsStatement q.s q.p q.c
  pub longest : IsLongest q.o (blank3 ++ (c ++ (codes "." ++ (blank4 ++ comment))))
  pub is_comment : IsComment comment

-- ws* comment?
pub record IsEmptyLine (text : List ℕ) : Type 0 where
  pub blank : List ℕ
  pub comment : List ℕ
  pub written : text ≡ blank ++ comment
  pub is_blank_text : IsTrue (is_blank blank)
  pub is_comment : IsComment comment

-- the text of a line, with its quad where it has one
abbrev pub IsLineText : Kind → List ℕ → Option Statement → Type 0
IsLineText kind text None = IsEmptyLine text
IsLineText kind text (Some q) = IsStatementLine kind text q

-- the bytes of a line are the UTF-8 of Unicode scalar values that are a line of the grammar
abbrev pub IsLine : Kind → List ℕ → Option Statement → Type 0
IsLine kind bytes q =
    (cs : List ℕ) × IsTrue (all_scalars cs) × (encode_utf8_all cs ≡ bytes) × IsLineText kind cs q

-- the bytes are the UTF-8 of Unicode scalar values that are a term of the grammar
abbrev pub IsTerm : List ℕ → Term → Type 0
IsTerm bytes t = (cs : List ℕ) × IsTrue (all_scalars cs) × (encode_utf8_all cs ≡ bytes) × IsTermText cs t

-- no part of the term is over 65,535 bytes in UTF-8
abbrev pub is_short_term : Term → Bool
is_short_term t = is_short (first t) && is_short (second t)

abbrev pub is_short_graph : Graph → Bool
is_short_graph Absent = is_short []
is_short_graph (Named name) = is_short_term name

abbrev pub IsShortTerm : Term → Type 0
IsShortTerm t = IsTrue (is_short_term t)

-- no part of a term of the quad is; a line without a quad has no such part
abbrev pub IsShortQuad : Option Statement → Type 0
IsShortQuad None = Unit {0}
IsShortQuad (Some q) = IsTrue (is_short_term q.s && is_short_term q.p && is_short_term q.o && is_short_graph q.c)

-- all terms of the quad, where there is one, are valid
abbrev pub IsValidLine : Option Statement → Type 0
IsValidLine None = Unit {0}
IsValidLine (Some q) = IsValidQuad q
