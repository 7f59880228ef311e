use Rattle.std.proofs.Common.{codes, encode_utf8_all}
use Rattle.rdf_term.specs.Canonical.{term_text}
use Rattle.rdf_term.proofs.WritingLemmas.{then_appends, appends_of}
use Rattle.nquads.proofs.WriteLemmas.{part_bytes}
use Rattle.nquads.proofs.writer.put_part.Goals as goal

pub returns : goal.returns
returns c =
    then_appends c.append.result c.args.out.now.items c.write_term.new.out.items c.append.new.self.items
    (encode_utf8_all (term_text c.args.term.now)) (codes " ") _ c.in_ok-write_term.ensures.ok (part_bytes (term_text c.args.term.now))
    (appends_of c.append.result c.write_term.new.out.items c.append.new.self.items (codes " ") c.append.ensures.ok c.append.ensures.memory)
