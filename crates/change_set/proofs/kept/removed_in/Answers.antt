use Rattle.std.proofs.Common.{◌+◌, [], ◌∷◌, ◌++◌, take, sym, ap, ◌∙◌}
use Rattle.std.proofs.lemmas.List.{take_more}
use Rattle.rdf_term.specs.Statement.{Statement}
use Rattle.change_set.specs.declared.effect.Mark.{Mark}
use Rattle.change_set.specs.Kept.{kept_removed}
use Rattle.change_set.proofs.DeltaLemmas.{removed-append}
use Rattle.change_set.proofs.kept.removed_in.Goals as goal

pub loop-entry-preserved : goal.loop-entry-preserved
loop-entry-preserved c =
    let named = c.args.named.now in
    let i = c.loop-entry.entry-index in
    let item = c.entry-item.result in
    c.in_ok-push_removed.ensures
    ∙ ap (λ found. found ++ kept_removed (item ∷ [])) c.loop-entry.invariant
    ∙ sym (removed-append (take i named) (item ∷ []))
    ∙ ap kept_removed (sym (take_more named i item c.loop-entry-test.true ∙ ap (λ (e : Statement × Mark). take i named ++ e ∷ []) (sym c.entry-item.is)))
