use Rattle.std.proofs.Common.{◌++◌, ◌<◌, ◌∷◌, [], List, length, subst, sym}
use Rattle.std.specs.List.{remove}
use Rattle.std.specs.List.Sorted.{IsPermutation}
use Rattle.std.proofs.lemmas.List.Sorted.{IsPermutation-more}
use Rattle.bgp_eval.specs.declared.step.Step.{Step}
use Rattle.bgp_eval.proofs.plan.planned.Goals as goal

pub loop-left-preserved : goal.loop-left-preserved
loop-left-preserved c =
    let within : c.best.result < length c.loop-left.left.items = subst (λ (xs : List Step). c.best.result < length xs) c.as_slice.ensures.value c.best.ensures in
    let moved : IsPermutation c.args.steps.items ((c.loop-left.plan.items ++ c.remove-step.result ∷ []) ++ remove c.loop-left.left.items c.best.result) =
    IsPermutation-more c.args.steps.items c.loop-left.plan.items c.loop-left.left.items c.best.result c.remove-step.result within c.remove-step.ensures.value c.loop-left.invariant in
    subst (λ (xs : List Step). IsPermutation c.args.steps.items (c.push.new.self.items ++ xs)) (sym c.remove-step.ensures.items)
    (subst (λ (xs : List Step). IsPermutation c.args.steps.items (xs ++ remove c.loop-left.left.items c.best.result)) (sym c.in_ok-push.ensures.items) moved)
