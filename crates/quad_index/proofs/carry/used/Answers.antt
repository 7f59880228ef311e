use Rattle.std.proofs.Common.{◌≡◌, ◌∙◌, List, sym, subst}
use Rattle.std.specs.List.{AllByRecursion}
use Rattle.rdf_term.specs.declared.term.Term.{Term}
use Rattle.quad_index.specs.Codes.{decode, IsKnown, terms_of}
use Rattle.quad_index.specs.Carry.{marked_terms}
use Rattle.quad_index.proofs.CarryLemmas.{all_used}
use Rattle.quad_index.proofs.carry.used.Goals as goal

pub returns : goal.returns
returns c =
    let kept : c.in_ok-kept.kept.items ≡ marked_terms c.args.terms.now c.in_ok-marks.marks.items =
    c.in_ok-kept.ensures ∙ (λ i. marked_terms (c.terms.ensures.terms i) (c.as_slice.ensures.value i)) in
    subst (λ (terms : List Term). AllByRecursion (λ k. AllByRecursion (IsKnown terms) (terms_of (decode c.args.terms.now k))) c.args.codes.now) (sym kept)
    (all_used c.args.terms.now c.in_ok-marks.marks.items c.args.codes.now c.requires c.in_ok-marks.ensures.marked)
