use Rattle.std.proofs.Common.{rules, tests, ◌∙◌, ap, [], fold}
use Rattle.std.proofs.lemmas.Iterator.Consumers.{YieldsList-end}
use Rattle.std.proofs.lemmas.Iterator.Splits.{YieldsList-from_slice_split}
use Rattle.api_paths.specs.Levels.{is_mark}
use Rattle.api_paths.proofs.level.last_part.Goals as goal

pub returns : goal.returns
returns c =
    let all = YieldsList-end (YieldsList-from_slice_split _ is_mark c.args.text.now (cc) (cc) (cc) (λ x b q k. search (rules, tests)))
    c.loop-part.yielded _ c.loop-part.yielded_by _ _ c.in-None.is c.next.ensures.steps in
    c.loop-part.invariant ∙ ap (fold (λ before part. part) []) all.0
