use Rattle.std.proofs.Common.{◌++◌, drop, map, encode_utf8_all}
use Rattle.rdf_term.specs.Canonical.{canonical_triple}
use Rattle.nquads_line.specs.declared.kind.Kind.TheVariants.{Triples}
use Rattle.nquads.specs.Written.{document_text}
use Rattle.nquads.proofs.WriteLemmas.{IsWriting}
use Rattle.nquads.proofs.writer.put_triples.Given as goal

abbrev pub invariant-loop-quad : goal.invariant-loop-quad
invariant-loop-quad l =
    IsWriting l.fn.out.items (l.fn.out.items ++ encode_utf8_all (document_text Triples l.quads))
    (map canonical_triple (drop l.quad-index l.quads)) l.last l.out.items
