use Rattle.std.proofs.Common.{◌≡◌, ◌∙◌, sym}
use Rattle.std.specs.Cmp.Lexicographic.{pointwise, pointwise_decides}
use Rattle.rdf_term.proofs.distinct.DistinctPartialEq.eq.Goals as goal

pub returns-clause-same : goal.returns-clause-same
returns-clause-same g c =
    let h = pointwise_decides g.met.T.ValueEq.same c.args.self.now c.args.other.now in
    let e : c.eq.result ≡ pointwise g.T.PartialEq.eq c.args.self.now c.args.other.now =
    c.eq.ensures ∙ (λ i. pointwise g.T.PartialEq.eq (c.as_slice.ensures.value i) (c.as_slice-2.ensures.value i)) in
    (λ t. h.0 (sym e ∙ t), λ q. e ∙ h.1 q)
