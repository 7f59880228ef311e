use Rattle.std.proofs.Common.{◌++◌, ap, ◌∙◌, sym, append_assoc, encode_utf8_all}
use Rattle.std.proofs.lemmas.Str.{encodes-append}
use Rattle.rdf_term.specs.declared.graph.Graph.{Graph}
use Rattle.nquads_line.specs.Parts.{triple_parts, graph_part}
use Rattle.rdf_term.specs.Canonical.{canonical_line}
use Rattle.nquads.proofs.WriteLemmas.{dot_appended, quad_line}
use Rattle.nquads.proofs.writer.put_quad.Goals as goal

pub returns : goal.returns
returns c =
    let q = c.args.quad.now in
    let parts = encode_utf8_all (triple_parts q) in
    dot_appended c.append.result c.args.out.now.items c.put_graph.new.out.items c.append.new.self.items
    (triple_parts q ++ graph_part q.c) (canonical_line q)
    (c.in_ok-put_graph.ensures ∙ ap (λ (g : Graph). c.put_parts.new.out.items ++ encode_utf8_all (graph_part g)) c.c.ensures.value
    ∙ ap (λ v. v ++ encode_utf8_all (graph_part q.c)) c.in_ok-put_parts.ensures
    ∙ append_assoc c.args.out.now.items parts (encode_utf8_all (graph_part q.c))
    ∙ ap (λ v. c.args.out.now.items ++ v) (sym (encodes-append (triple_parts q) (graph_part q.c))))
    (quad_line q) c.append.ensures.ok c.append.ensures.memory
