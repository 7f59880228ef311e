use Rattle.std.proofs.Common.{◌≡◌, map}
use Rattle.std.specs.List.{filter_map}
use Rattle.media.specs.Ranges.{range_of}
use Rattle.media.specs.Choice.{best_of}
use Rattle.media.proofs.choice.quality_among.Given as goal

abbrev pub invariant-loop-element : goal.invariant-loop-element
invariant-loop-element l = l.best ≡ best_of l.form (filter_map range_of (map (λ element. element.now) l.yielded))
