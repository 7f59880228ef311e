use Rattle.std.proofs.Common.{rules, tests, ◌==◌, is_some}
use Rattle.std.proofs.lemmas.Iterator.Search.{any_from_yields_List}
use Rattle.std.proofs.lemmas.Iterator.Splits.{YieldsList-from_slice_split}
use Rattle.media.specs.Ranges.{range_of}
use Rattle.media.proofs.choice.has_range.Goals as goal

pub returns : goal.returns
returns c =
    any_from_yields_List (λ element. is_some (range_of element)) _ _ _ c.any.ensures.ran
    (YieldsList-from_slice_split _ (λ b. b == 44) c.args.accept.now c.split.ensures.rest c.split.ensures.done c.split.ensures.closure (λ x b q k. search (rules, tests)))
    (λ x b q k. search (rules, tests))
