use Rattle.std.proofs.Common.{◌≡◌, take}
use Rattle.bgp_eval.specs.Steps.{search_steps}
use Rattle.bgp_eval.proofs.step.search_steps.Given as goal

abbrev pub invariant-loop-number : goal.invariant-loop-number
invariant-loop-number l = l.steps.items ≡ search_steps l.names l.views (take l.number l.patterns)
