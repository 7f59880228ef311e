use Rattle.std.proofs.Common.{length, encode_utf8_all, ap, arith}
use Rattle.rdf_term.specs.declared.term.Term.{Term}
use Rattle.rdf_term.specs.declared.graph.Graph.{Graph}
use Rattle.rdf_term.specs.Canonical.{term_text}
use Rattle.nquads_line.specs.Parts.{graph_part}
use Rattle.nquads_line.proofs.ByteLemmas.{length-line}
use Rattle.nquads_line.proofs.lengths.line_bytes.Goals as goal

pub returns : goal.returns
returns c =
    let size = λ (t : Term). length (encode_utf8_all (term_text t)) in
    let s = ap size c.s.ensures.value in
    let p = ap size c.p.ensures.value in
    let o = ap size c.o.ensures in
    let g = ap (λ (g : Graph). length (encode_utf8_all (graph_part g))) c.c.ensures.value in
    omega (arith, s, p, o, g, length-line c.args.quad.now)
