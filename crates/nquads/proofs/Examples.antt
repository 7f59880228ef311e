-- Worked cases of the definitions, by computation.
use Rattle.std.proofs.Common.{◌≡◌, refl, [], ◌∷◌, codes, None}
use Rattle.rdf_term.specs.declared.term.Term.TheVariants.{Iri, Blank}
use Rattle.rdf_term.specs.declared.graph.Graph.{Graph}
use Rattle.rdf_term.specs.declared.graph.Graph.TheVariants.{Absent, Named}
use Rattle.rdf_term.specs.Statement.{Statement}
use Rattle.nquads_line.specs.declared.kind.Kind.TheVariants.{Triples, Quads}
use Rattle.nquads.specs.Lines.{lines_of}
use Rattle.nquads_line.specs.Grammar.{IsLine}
use Rattle.nquads.specs.Documents.{IsDocument}
use Rattle.nquads.specs.Written.{document_text, read_again}

-- CR LF, CR and LF each end one line
cut_all : lines_of (codes "a\r\nb\rc\n\nd") ≡ codes "a" ∷ codes "b" ∷ codes "c" ∷ [] ∷ codes "d" ∷ []
cut_all = refl

-- a last line that is empty follows an end
cut_at_end : lines_of (codes "a\r") ≡ codes "a" ∷ [] ∷ []
cut_at_end = refl

abbrev in_graph : Graph → Statement
in_graph graph = record { s = Iri (codes "a:s"); p = Iri (codes "a:p"); o = Iri (codes "a:o"); c = graph }

-- an empty line gives no quad
empty : IsLine Triples [] None
empty = ([], refl, refl, record { blank = []; comment = []; written = refl; is_blank_text = refl; is_comment = tt })

document : IsDocument Triples (codes "\r\n") []
document = (None, [], empty, tt, refl, (None, [], empty, tt, refl, refl))

-- two graphs of one triple: two lines of N-Quads, one of N-Triples
quads_written : document_text Quads (in_graph Absent ∷ in_graph (Named (Blank (codes "g"))) ∷ [])
    ≡ codes "<a:s> <a:p> <a:o> .\n<a:s> <a:p> <a:o> _:g .\n"
quads_written = refl

triples_written : document_text Triples (in_graph Absent ∷ in_graph (Named (Blank (codes "g"))) ∷ []) ≡ codes "<a:s> <a:p> <a:o> .\n"
triples_written = refl

-- which is read as one triple
triples_again : read_again Triples (in_graph Absent ∷ in_graph (Named (Blank (codes "g"))) ∷ []) ≡ in_graph Absent ∷ []
unfolding lib.Utf8.encode
triples_again = refl
