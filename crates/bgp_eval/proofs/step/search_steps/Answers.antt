use Rattle.std.proofs.Common.{◌≡◌, ◌∙◌, ◌+◌, ◌++◌, ◌∷◌, [], List, ℕ, sym, take}
use Rattle.query_model.specs.declared.query.TriplePattern.{TriplePattern}
use Rattle.bgp_eval.specs.declared.step.Step.{Step}
use Rattle.bgp_eval.specs.Steps.{step_of, search_steps}
use Rattle.bgp_eval.proofs.ShapeLemmas.{search_steps_more}
use Rattle.bgp_eval.proofs.step.search_steps.Goals as goal

pub loop-number-preserved : goal.loop-number-preserved
loop-number-preserved c =
    let names = c.args.names.now in
    let done : List Step = search_steps names c.args.views (take c.loop-number.number c.args.patterns.now) in
    let numbered : ℕ × TriplePattern = (c.loop-number.number, c.index-patterns-number.result) in
    let pushed : c.push.new.self.items ≡ c.loop-number.steps.items ++ c.in_ok-step_of.field-0 ∷ [] = c.in_ok-push.ensures.items in
    let before : c.loop-number.steps.items ≡ done = c.loop-number.invariant in
    let step : c.in_ok-step_of.field-0 ≡ step_of names c.args.views numbered = c.in_ok-step_of.ensures in
    let more : search_steps names c.args.views (take (c.loop-number.number + 1) c.args.patterns.now) ≡ done ++ step_of names c.args.views numbered ∷ [] =
    search_steps_more names c.args.views c.args.patterns.now c.loop-number.number c.index-patterns-number.result c.loop-number-test.true c.index-patterns-number.is in
    pushed ∙ (λ i. before i ++ step i ∷ []) ∙ sym more
