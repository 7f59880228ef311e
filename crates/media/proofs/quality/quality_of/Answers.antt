use Rattle.std.proofs.Common.{rules, tests, ◌==◌, ◌∙◌, ap, map}
use Rattle.std.proofs.lemmas.Iterator.Adapters.{YieldsList-from_skip}
use Rattle.std.proofs.lemmas.Iterator.Consumers.{YieldsList-at, YieldsList-end}
use Rattle.std.proofs.lemmas.Iterator.Splits.{YieldsList-from_slice_split}
use Rattle.media.specs.Pieces.{trimmed}
use Rattle.media.specs.Quality.{quality_by, quality_of, weight_of}
use Rattle.media.proofs.quality.quality_of.Goals as goal

pub returns : goal.returns
unfolding quality_of
returns c =
    let all = YieldsList-end (YieldsList-from_skip 1 (YieldsList-at (cc) (YieldsList-from_slice_split {s = c.split.result} _ (λ b. b == 59) c.args.element.now c.split.ensures.rest c.split.ensures.done c.split.ensures.closure (λ x b q k. search (rules, tests)))) (cc))
    c.loop-parameter.yielded _ c.loop-parameter.yielded_by _ _ c.in-None.is c.next.ensures.steps in
    c.quality.ensures ∙ ap quality_by (c.loop-parameter.invariant ∙ ap (λ pieces. weight_of (map trimmed pieces)) all.0)
