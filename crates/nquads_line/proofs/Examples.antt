-- Worked cases of the grammar.
use Rattle.std.proofs.Common.{◌≡◌, refl, [], ◌∷◌, ◌++◌, Some, None, true, codes, ℕ, List, map, ap, sym, Option}
use Rattle.std.specs.List.{flat_map, list_all}
use Rattle.rdf_term.specs.declared.term.Term.TheVariants.{Iri, Blank, Plain, Tagged}
use Rattle.rdf_term.specs.declared.graph.Graph.TheVariants.{Absent, Named}
use Rattle.rdf_term.specs.Statement.{Statement}
use Rattle.rdf_term.specs.Validity.{has_scheme}
use Rattle.nquads_line.specs.declared.kind.Kind.{Kind}
use Rattle.nquads_line.specs.declared.kind.Kind.TheVariants.{Triples, Quads}
use Rattle.nquads_line.specs.declared.quoted.Quoted.TheVariants as marks
use Rattle.nquads_line.specs.Written.{Raw, Short, Four, Eight, spelling, meaning, is_piece}
use Rattle.nquads_line.specs.Terms.{IsIriRef}
use Rattle.nquads_line.specs.Grammar.{IsLineText}
use Rattle.nquads_line.specs.Reading.{line_at, statement_at, iri_at, label_at, literal_at, tagged_at, datatype_at}
use Rattle.nquads_line.proofs.LineLemmas.{line_again, line_ok}

-- an IRI of this text, written as it is
plain : (text : List ℕ) → list_all (is_piece marks.Iri) (map Raw text) ≡ true → has_scheme text ≡ true
    → flat_map spelling (map Raw text) ≡ text → map meaning (map Raw text) ≡ text
    → IsIriRef (codes "<" ++ text ++ codes ">") text
plain text h s e m = record {
  inner = text ++ codes ">";
  opened = refl;
  written = record { pieces = map Raw text; each = h; written = ap (λ t. t ++ codes ">") (sym e); meant = sym m };
  scheme = s;
}

-- every part of a line once, by the definition alone
whole_line : IsLineText Quads
    (codes "<http://e/s>\t<http://e/p> \"caf\\u00E9 \\U0001F600\\t\" @en <http://e/g> . # c")
    (Some (record { s = Iri (codes "http://e/s"); p = Iri (codes "http://e/p"); o = Tagged (codes "café 😀\t") (codes "en"); c = Named (Iri (codes "http://e/g")) }))
whole_line = record {
  s = codes "<http://e/s>";
  p' = codes "<http://e/p>";
  o = codes "\"caf\\u00E9 \\U0001F600\\t\" @en";
  c = codes "<http://e/g> ";
  blank0 = [];
  blank1 = codes "\t";
  blank2 = codes " ";
  blank3 = codes " ";
  blank4 = codes " ";
  comment = codes "# c";
  written = refl;
  blanks = refl;
  subject = plain (codes "http://e/s") refl refl refl refl;
  predicate = plain (codes "http://e/p") refl refl refl refl;
  object = record {
    string = codes "\"caf\\u00E9 \\U0001F600\\t\"";
    before = codes " ";
    written = refl;
    is_string = record {
      inner = codes "caf\\u00E9 \\U0001F600\\t\"";
      opened = refl;
      written = record { pieces = map Raw (codes "caf") ++ Four (codes "00E9") ∷ Raw 32 ∷ Eight (codes "0001F600") ∷ Short 116 ∷ []; each = refl; written = refl; meant = refl };
    };
    before_blank = refl;
    is_tag_text = refl;
  };
  graph = (codes "<http://e/g>", codes " ", refl, plain (codes "http://e/g") refl refl refl refl, refl);
  kinds = record { subject = tt; predicate = tt; graph = tt };
  longest = tt;
  is_comment = (refl, refl);
}

-- no line of the grammar
refused : (kind : Kind) (text : List ℕ) → line_at kind text ≡ None → (r : Option Statement) → IsLineText kind text r → ⊥
refused kind text e r h = let read : line_at kind text ≡ Some r = line_again kind text r h in cc

-- an object's label is the longest one, and no label ends with a dot
abbrev labels : Statement
labels = record { s = Blank (codes "s"); p = Iri (codes "u:p"); o = Blank (codes "a.b_:g"); c = Absent }

longest_label : IsLineText Quads (codes "_:s<u:p>_:a.b_:g.") (Some labels)
unfolding statement_at iri_at label_at literal_at tagged_at datatype_at
longest_label = line_ok Quads (codes "_:s<u:p>_:a.b_:g.") (Some labels) refl

-- a UCHAR of two digits, a raw carriage return and a surrogate are refused, and a graph in N-Triples
short_escape : (r : Option Statement) → IsLineText Quads (codes "<u:s> <u:p> \"\\u12\" .") r → ⊥
unfolding statement_at iri_at label_at literal_at tagged_at datatype_at
short_escape = refused Quads _ refl

raw_return : (r : Option Statement) → IsLineText Quads (codes "<u:s> <u:p> \"a\rb\" .") r → ⊥
unfolding statement_at iri_at label_at literal_at tagged_at datatype_at
raw_return = refused Quads _ refl

surrogate : (r : Option Statement) → IsLineText Quads (codes "<u:s> <u:p> \"\\uD800\" .") r → ⊥
unfolding statement_at iri_at label_at literal_at tagged_at datatype_at
surrogate = refused Quads _ refl

graph_in_triples : (r : Option Statement) → IsLineText Triples (codes "<u:s> <u:p> <u:o> <u:g> .") r → ⊥
unfolding statement_at iri_at label_at literal_at tagged_at datatype_at
graph_in_triples = refused Triples _ refl

-- a comment ends where its line does
two_lines : (r : Option Statement) → IsLineText Quads (codes "# a\n<u:s> <u:p> <u:o> .") r → ⊥
unfolding statement_at iri_at label_at literal_at tagged_at datatype_at
two_lines = refused Quads _ refl

-- a literal typed as xsd:string is a plain one
abbrev string_line : List ℕ
string_line = codes "<u:s><u:p>\"a\" ^^ <http://www.w3.org/2001/XMLSchema#string>."

abbrev plain_quad : Statement
plain_quad = record { s = Iri (codes "u:s"); p = Iri (codes "u:p"); o = Plain (codes "a"); c = Absent }

typed_string : IsLineText Triples string_line (Some plain_quad)
unfolding statement_at iri_at label_at literal_at tagged_at datatype_at
typed_string = line_ok Triples string_line (Some plain_quad) refl
