use Rattle.std.proofs.Common.{rules, tests, ◌==◌, ◌∙◌, ap}
use Rattle.std.proofs.lemmas.Iterator.Consumers.{YieldsList-end}
use Rattle.std.proofs.lemmas.Iterator.Splits.{YieldsList-from_slice_split}
use Rattle.api_paths.specs.Targets.{texts_of, segments}
use Rattle.api_paths.proofs.target.segments.Goals as goal

pub returns : goal.returns
unfolding segments
returns c =
    let all = YieldsList-end (YieldsList-from_slice_split _ (λ b. b == 47) c.args.path.now (cc) (cc) (cc) (λ x b q k. search (rules, tests)))
    c.loop-piece.yielded _ c.loop-piece.yielded_by _ _ c.in-None.is c.next.ensures.steps in
    c.loop-piece.invariant ∙ ap texts_of all.0
