use Rattle.std.proofs.Common.{◌++◌, codes, encode_utf8_all, ap, ◌∙◌, subst}
use Rattle.rdf_term.specs.declared.term.Term.{Term}
use Rattle.rdf_term.specs.Canonical.{term_text}
use Rattle.rdf_term.specs.Writing.{Appends}
use Rattle.nquads.proofs.WriteLemmas.{three_appended}
use Rattle.nquads.proofs.writer.put_parts.Goals as goal

pub returns : goal.returns
returns c =
    let q = c.args.quad.now in
    let last = c.put_part-3.new.out.items in
    three_appended c.put_part-3.result c.args.out.now.items c.put_part.new.out.items c.put_part-2.new.out.items last
    (term_text q.s ++ codes " ") (term_text q.p ++ codes " ") (term_text q.o ++ codes " ")
    (c.in_ok-put_part.ensures ∙ ap (λ (t : Term). c.args.out.now.items ++ encode_utf8_all (term_text t ++ codes " ")) c.s.ensures.value)
    (c.in_ok-put_part-2.ensures ∙ ap (λ (t : Term). c.put_part.new.out.items ++ encode_utf8_all (term_text t ++ codes " ")) c.p.ensures.value)
    (subst (λ (t : Term). Appends c.put_part-3.result c.put_part-2.new.out.items last (encode_utf8_all (term_text t ++ codes " "))) c.o.ensures c.put_part-3.ensures)
