use Rattle.std.proofs.Common.{◌≡◌, ◌++◌, take, encode_utf8_all}
use Rattle.std.specs.List.{flat_map}
use Rattle.rdf_term.specs.Canonical.{canonical_line}
use Rattle.nquads.proofs.writer.put_quads.Given as goal

abbrev pub invariant-loop-quad : goal.invariant-loop-quad
invariant-loop-quad l =
    l.out.items ≡ l.fn.out.items ++ encode_utf8_all (flat_map canonical_line (take l.quad-index l.quads))
