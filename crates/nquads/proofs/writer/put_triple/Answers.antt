use Rattle.nquads_line.specs.Parts.{triple_parts}
use Rattle.rdf_term.specs.Canonical.{canonical_triple}
use Rattle.nquads.proofs.WriteLemmas.{dot_appended, triple_line}
use Rattle.nquads.proofs.writer.put_triple.Goals as goal

pub returns : goal.returns
returns c =
    dot_appended c.append.result c.args.out.now.items c.put_parts.new.out.items c.append.new.self.items
    (triple_parts c.args.quad.now) (canonical_triple c.args.quad.now) c.in_ok-put_parts.ensures (triple_line c.args.quad.now)
    c.append.ensures.ok c.append.ensures.memory
