use Rattle.std.proofs.Common.{[], ◌∷◌, ◌++◌, take, filter, sym, ap, ◌∙◌}
use Rattle.std.proofs.lemmas.List.{take_more}
use Rattle.rdf_term.specs.Statement.{Statement}
use Rattle.rdf_term.specs.Matching.{matches}
use Rattle.change_set.specs.declared.effect.Mark.{Mark}
use Rattle.change_set.specs.Kept.{kept_added}
use Rattle.change_set.proofs.Ranges.{added-append}
use Rattle.change_set.proofs.kept.added_in.Goals as goal

pub loop-entry-preserved : goal.loop-entry-preserved
loop-entry-preserved c =
    let pattern = c.args.pattern.now in
    let named = c.args.named.now in
    let i = c.loop-entry.entry-index in
    let item = c.entry-item.result in
    c.in_ok-push_added.ensures
    ∙ ap (λ found. found ++ filter (matches pattern) (kept_added (item ∷ []))) c.loop-entry.invariant
    ∙ sym (added-append pattern (take i named) (item ∷ []))
    ∙ ap (λ es. filter (matches pattern) (kept_added es)) (sym (take_more named i item c.loop-entry-test.true ∙ ap (λ (e : Statement × Mark). take i named ++ e ∷ []) (sym c.entry-item.is)))
