use Rattle.std.proofs.Common.{◌≡◌, ◌+◌, ◌++◌, ◌∷◌, map, drop, encode_utf8_all, ap, ◌∙◌, sym, subst, arith}
use Rattle.std.proofs.lemmas.List.{drop_more}
use Rattle.rdf_term.specs.Statement.{Statement}
use Rattle.rdf_term.specs.Canonical.{canonical_triple}
use Rattle.nquads_line.specs.declared.kind.Kind.TheVariants.{Triples}
use Rattle.nquads.specs.Written.{document_text}
use Rattle.nquads.proofs.WriteLemmas.{IsWriting, writing_none, writing_next}
use Rattle.nquads.proofs.writer.put_triples.Goals as goal

pub loop-quad-init : goal.loop-quad-init
loop-quad-init c = writing_none c.args.out.now.items c.len-last.result c.args.quads.now c.len-last.ensures

pub loop-quad-preserved : goal.loop-quad-preserved
loop-quad-preserved c =
    let i = c.loop-quad.quad-index in
    let qs = c.args.quads.now in
    let q = c.quad-item.result in
    let before = c.args.out.now.items in
    let whole = before ++ encode_utf8_all (document_text Triples qs) in
    let split : drop i qs ≡ q ∷ drop (i + 1) qs =
    drop_more qs i q (omega arith) ∙ ap (λ (v : Statement). v ∷ drop (i + 1) qs) (sym c.quad-item.is) in
    writing_next before whole (canonical_triple q) (map canonical_triple (drop (i + 1) qs)) c.loop-quad.last c.loop-quad.out.items
    c.in_ok-last.last c.put_next_triple.new.out.items
    (subst (λ v. IsWriting before whole (map canonical_triple v) c.loop-quad.last c.loop-quad.out.items) split c.loop-quad.invariant)
    c.in_ok-last.ensures
