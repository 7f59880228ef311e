use Rattle.std.proofs.Common.{sym, subst}
use Rattle.rdf_term.specs.Canonical.{quoted}
use Rattle.rdf_term.specs.Writing.{Appends}
use Rattle.rdf_term.proofs.WritingLemmas.{then_appends}
use Rattle.nquads_line.proofs.WriteLemmas.{iri_bytes, tag_bytes, type_bytes}
use Rattle.nquads_line.proofs.writer.put_term.Goals as goal

pub returns-in-Iri : goal.returns-in-Iri
returns-in-Iri c =
    rw c.in-Iri.is (subst (λ v. Appends c.put.result c.args.out.now.items c.put.new.out.items v) (sym (iri_bytes c.in-Iri.iri)) c.put.ensures)

pub returns-in_ok-put_quoted-in-Tagged : goal.returns-in_ok-put_quoted-in-Tagged
returns-in_ok-put_quoted-in-Tagged c =
    rw c.in-Tagged.is (then_appends c.put-in-Tagged.result c.args.out.now.items _ c.put-in-Tagged.new.out.items _ _ _
    c.in_ok-put_quoted-in-Tagged.ensures (sym (tag_bytes (quoted c.in-Tagged.text) c.in-Tagged.tag)) c.put-in-Tagged.ensures)

pub returns-in_ok-put_quoted-in-Typed : goal.returns-in_ok-put_quoted-in-Typed
returns-in_ok-put_quoted-in-Typed c =
    rw c.in-Typed.is (then_appends c.put-in-Typed.result c.args.out.now.items _ c.put-in-Typed.new.out.items _ _ _
    c.in_ok-put_quoted-in-Typed.ensures (sym (type_bytes (quoted c.in-Typed.text) c.in-Typed.datatype)) c.put-in-Typed.ensures)
