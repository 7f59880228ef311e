use Rattle.std.proofs.Common.{◌∙◌, sym, ap}
use Rattle.media.specs.Ranges.{range_of, ranges_of}
use Rattle.media.specs.Choice.{quality, quality_among, ranges_or_any}
use Rattle.media.proofs.RangeLaws.{has_ranges, no_ranges, any_quality}
use Rattle.media.proofs.choice.quality.Goals as goal

pub returns-then-has_range : goal.returns-then-has_range
unfolding quality ranges_of
returns-then-has_range c =
    c.quality_among.ensures ∙ ap (quality_among c.args.form) (sym (has_ranges range_of _ (sym c.has_range.ensures ∙ c.if-has_range.true)))

pub returns-else-has_range : goal.returns-else-has_range
unfolding quality ranges_of
returns-else-has_range c =
    sym (any_quality c.args.form) ∙ ap (λ ranges. quality_among c.args.form (ranges_or_any ranges)) (sym (no_ranges range_of _ (sym c.has_range.ensures ∙ c.if-has_range.false)))
