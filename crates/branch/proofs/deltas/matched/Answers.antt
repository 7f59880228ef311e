use Rattle.std.proofs.Common.{[], ◌∷◌, ◌++◌, filter, take, sym, ap, ◌∙◌, append-nil}
use Rattle.std.proofs.lemmas.List.{take_more}
use Rattle.std.proofs.lemmas.List.Concat.{flat_map-append}
use Rattle.rdf_term.specs.Matching.{matches}
use Rattle.rdf_term.specs.declared.pattern.Pattern.{Pattern}
use Rattle.branch.specs.Deltas.{matched_by}
use Rattle.branch.proofs.deltas.matched.Goals as goal

pub loop-pattern-preserved : goal.loop-pattern-preserved
loop-pattern-preserved g c =
    let base = g.S.Scan.content c.args.base.now in
    let patterns = c.args.patterns.now in
    let i = c.loop-pattern.pattern-index in
    let item = c.pattern-item.result in
    let f = λ (p : Pattern). filter (matches p) base in
    c.in_ok-append.ensures.ok
    ∙ (λ j. c.loop-pattern.invariant j ++ c.in_ok-scan.ensures.value j)
    ∙ ap (λ r. matched_by base (take i patterns) ++ r) (sym (append-nil (f item)))
    ∙ sym (flat_map-append f (take i patterns) (item ∷ []))
    ∙ ap (matched_by base) (sym (take_more patterns i item c.loop-pattern-test.true ∙ ap (λ p. take i patterns ++ p ∷ []) (sym c.pattern-item.is)))
