use Rattle.std.proofs.Common.{◌++◌, ap, ◌∙◌, append_assoc, encode_utf8_all, take, arith}
use Rattle.std.specs.List.{flat_map}
use Rattle.rdf_term.specs.Canonical.{canonical_line}
use Rattle.nquads.proofs.WriteLemmas.{lines_more}
use Rattle.nquads.proofs.writer.put_quads.Goals as goal

pub loop-quad-preserved : goal.loop-quad-preserved
loop-quad-preserved c =
    let i = c.loop-quad.quad-index in
    let qs = c.args.quads.now in
    let written = encode_utf8_all (flat_map canonical_line (take i qs)) in
    let line = encode_utf8_all (canonical_line c.quad-item.result) in
    c.in_ok-put_quad.ensures ∙ ap (λ v. v ++ line) c.loop-quad.invariant ∙ append_assoc c.args.out.now.items written line
    ∙ ap (λ v. c.args.out.now.items ++ v) (lines_more qs i c.quad-item.result (omega arith) c.quad-item.is)
