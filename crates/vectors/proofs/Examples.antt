-- Telling documents of the tables, by the definitions alone.
use Rattle.std.proofs.Common.{◌≡◌, ℕ, List, [], ◌∷◌, true, false, refl, subst, Option, Some, None, codes, length, encode_utf8_all}
use Rattle.std.specs.Str.{all_scalars, chars, is_utf8}
use Rattle.std.proofs.lemmas.Str.{encodes_same, is_utf8-from_IsUtf8}
use lib.Utf8.{encode}
use Rattle.rdf_term.specs.declared.term.Term.{Term}
use Rattle.rdf_term.specs.declared.term.Term.TheVariants.{Iri, Plain, Tagged}
use Rattle.rdf_term.specs.declared.graph.Graph.{Graph}
use Rattle.rdf_term.specs.declared.graph.Graph.TheVariants.{Absent, Named}
use Rattle.rdf_term.specs.Statement.{Statement}
use Rattle.nquads_line.specs.declared.kind.Kind.{Kind}
use Rattle.nquads_line.specs.declared.kind.Kind.TheVariants.{Triples, Quads}
use Rattle.nquads_line.specs.Grammar.{IsLine}
use Rattle.nquads_line.specs.Reading.{line_at, statement_at, iri_at, label_at, literal_at, tagged_at, datatype_at}
use Rattle.nquads_line.proofs.LineLemmas.{line_again, line_ok}
use Rattle.nquads.specs.declared.fault.DataFault.TheVariants.{BadLine}
use Rattle.nquads.specs.Lines.{lines_of}
use Rattle.nquads.specs.Documents.{IsDocument, FirstBad}
use Rattle.nquads.specs.Written.{document_text}

-- a line with this reading
is_line : (kind : Kind) (cs : List ℕ) (r : Option Statement) → all_scalars cs ≡ true → line_at kind cs ≡ Some r
    → IsLine kind (encode_utf8_all cs) r
is_line kind cs r s e = (cs, s, refl, line_ok kind cs r e)

-- no line
no_line : (kind : Kind) (cs : List ℕ) → line_at kind cs ≡ None → (r : Option Statement) → IsLine kind (encode_utf8_all cs) r → ⊥
no_line kind cs e r h =
    let same : h.0 ≡ cs = encodes_same h.0 cs h.2 in
    let read : line_at kind cs ≡ Some r = subst (λ l. line_at kind l ≡ Some r) same (line_again kind h.0 r h.3) in
    cc

-- a document of one line, which is bad
one_bad : (kind : Kind) (cs bytes : List ℕ) → lines_of bytes ≡ encode_utf8_all cs ∷ [] → line_at kind cs ≡ None
    → FirstBad kind bytes (BadLine 1)
one_bad kind cs bytes l e = record {
  good = [];
  bad = encode_utf8_all cs;
  later = [];
  quads = [];
  lines = l;
  read = refl;
  refused = (refl, no_line kind cs e);
}

-- an empty line behind the last end, and an end of the document
empty : (kind : Kind) → IsLine kind [] None
unfolding encode
empty kind = is_line kind [] None refl refl

abbrev quad : Term → Graph → Statement
quad object graph = record { s = Iri (codes "http://e/s"); p = Iri (codes "http://e/p"); o = object; c = graph }

-- the escaped upload, its listing and that listing's length in bytes
abbrev upload : List ℕ
upload = encode_utf8_all (codes "<http://e/s>\t<http://e/p> \"caf\\u00E9 \\U0001F600\"@en <http://e/g> . # c\r\n")

abbrev uploaded : Statement
uploaded = quad (Tagged (codes "café 😀") (codes "en")) (Named (Iri (codes "http://e/g")))

upload_read : IsDocument Quads upload (uploaded ∷ [])
unfolding statement_at iri_at label_at literal_at tagged_at datatype_at encode
upload_read = (
  Some uploaded,
  [],
  is_line Quads (codes "<http://e/s>\t<http://e/p> \"caf\\u00E9 \\U0001F600\"@en <http://e/g> . # c") (Some uploaded) refl refl,
  refl,
  refl,
  (None, [], empty Quads, tt, refl, refl),
)

upload_listed : document_text Quads (uploaded ∷ []) ≡ codes "<http://e/s> <http://e/p> \"café 😀\"@en <http://e/g> .\n"
upload_listed = refl

upload_length : length (encode_utf8_all (document_text Quads (uploaded ∷ []))) ≡ 57
unfolding encode
upload_length = refl

-- a document of four lines, of which the third is bad
abbrev good_line : List ℕ
good_line = codes "<http://e/s> <http://e/p> \"1\" ."

abbrev one : Statement
one = quad (Plain (codes "1")) Absent

good_read : IsLine Triples (encode_utf8_all good_line) (Some one)
unfolding statement_at iri_at label_at literal_at tagged_at datatype_at encode
good_read = is_line Triples good_line (Some one) refl refl

third_bad : FirstBad Triples
    (encode_utf8_all (codes "<http://e/s> <http://e/p> \"1\" .\n<http://e/s> <http://e/p> \"1\" .\n<http://e/s> <http://e/p> \"a\\u12\" .\n<http://e/s> <http://e/p> \"1\" .\n"))
    (BadLine 3)
unfolding statement_at iri_at label_at literal_at tagged_at datatype_at encode
third_bad = record {
  good = encode_utf8_all good_line ∷ encode_utf8_all good_line ∷ [];
  bad = encode_utf8_all (codes "<http://e/s> <http://e/p> \"a\\u12\" .");
  later = encode_utf8_all good_line ∷ [] ∷ [];
  quads = one ∷ one ∷ [];
  lines = refl;
  read = (Some one, one ∷ [], good_read, refl, refl, (Some one, [], good_read, refl, refl, refl));
  refused = (refl, no_line Triples (codes "<http://e/s> <http://e/p> \"a\\u12\" .") refl);
}

-- CR CR LF ends two lines, and the first of two bad lines is named
ends_counted : FirstBad Quads (codes "\r\r\nx\ny") (BadLine 3)
unfolding statement_at iri_at label_at literal_at tagged_at datatype_at encode
ends_counted = record {
  good = [] ∷ [] ∷ [];
  bad = encode_utf8_all (codes "x");
  later = codes "y" ∷ [];
  quads = [];
  lines = refl;
  read = (None, [], empty Quads, tt, refl, (None, [], empty Quads, tt, refl, refl));
  refused = (refl, no_line Quads (codes "x") refl);
}

-- a document of white space and a comment is one without quads
no_quads : IsDocument Triples (codes " \t\r# <a:s>") []
unfolding statement_at iri_at label_at literal_at tagged_at datatype_at encode
no_quads = (
  None,
  [],
  is_line Triples (codes " \t") None refl refl,
  tt,
  refl,
  (None, [], is_line Triples (codes "# <a:s>") None refl refl, tt, refl, refl),
)

-- a graph in N-Triples, a relative IRI, an excluded character by an escape, a surrogate, a label that ends with a dot,
-- and a byte order mark
graph_in_triples : FirstBad Triples (codes "<a:s> <a:p> <a:o> <a:g> .") (BadLine 1)
unfolding statement_at iri_at label_at literal_at tagged_at datatype_at encode
graph_in_triples = one_bad Triples (codes "<a:s> <a:p> <a:o> <a:g> .") _ refl refl

relative_iri : FirstBad Triples (codes "<s> <a:p> <a:o> .") (BadLine 1)
unfolding statement_at iri_at label_at literal_at tagged_at datatype_at encode
relative_iri = one_bad Triples (codes "<s> <a:p> <a:o> .") _ refl refl

excluded_character : FirstBad Triples (codes "<a:\\u0020> <a:p> <a:o> .") (BadLine 1)
unfolding statement_at iri_at label_at literal_at tagged_at datatype_at encode
excluded_character = one_bad Triples (codes "<a:\\u0020> <a:p> <a:o> .") _ refl refl

surrogate : FirstBad Triples (codes "<a:s> <a:p> \"\\uD800\" .") (BadLine 1)
unfolding statement_at iri_at label_at literal_at tagged_at datatype_at encode
surrogate = one_bad Triples (codes "<a:s> <a:p> \"\\uD800\" .") _ refl refl

label_before_a_dot : FirstBad Triples (codes "<a:s> <a:p> _:a. .") (BadLine 1)
unfolding statement_at iri_at label_at literal_at tagged_at datatype_at encode
label_before_a_dot = one_bad Triples (codes "<a:s> <a:p> _:a. .") _ refl refl

byte_order_mark : FirstBad Triples (encode_utf8_all (65279 ∷ codes "<a:s> <a:p> <a:o> .")) (BadLine 1)
unfolding statement_at iri_at label_at literal_at tagged_at datatype_at encode
byte_order_mark = one_bad Triples (65279 ∷ codes "<a:s> <a:p> <a:o> .") _ refl refl

-- a byte that is in no text of UTF-8, in a comment too
not_utf8 : FirstBad Quads (35 ∷ 255 ∷ []) (BadLine 1)
unfolding is_utf8 chars encode
not_utf8 = record {
  good = [];
  bad = 35 ∷ 255 ∷ [];
  later = [];
  quads = [];
  lines = refl;
  read = refl;
  refused = (refl, λ r h. (let f : false ≡ true = is_utf8-from_IsUtf8 (35 ∷ 255 ∷ []) (h.0, (h.1, h.2)) in cc));
}
