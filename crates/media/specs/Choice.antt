-- The qualities of forms by an Accept value, and the choice among offers (RFC 9110, section 12.5.1).
use Rattle.std.specs.Prelude.{ℕ, List, [], ◌∷◌, Option, Some, None, codes}
use Rattle.std.specs.Option.{option_map_or}
use Rattle.media.specs.declared.form.Form.{Form}
use Rattle.media.specs.declared.specificity.Specificity.TheVariants.{NoMatch}
use Rattle.media.specs.declared.choice.Best.{Best}
use Rattle.media.specs.MediaRange.{MediaRange}
use Rattle.media.specs.Ranges.{range_with, ranges_of, specificity, rank_of}
use Rattle.media.specs.Greatest.{first_greatest}

-- how specific a range is for a form, as a number; 0 where it doesn't match
abbrev pub rank : Form → MediaRange → ℕ
rank form range = rank_of (specificity form range)

-- the most specific range that matches a form, the first of these
abbrev pub range_for : Form → List MediaRange → Option MediaRange
range_for form ranges = first_greatest (rank form) ranges

-- its quality, and 0 where none matches
abbrev pub quality_among : Form → List MediaRange → ℕ
quality_among form ranges = option_map_or (λ range. range.quality) (range_for form ranges) 0

-- a value without a range counts as `*/*`
abbrev pub ranges_or_any : List MediaRange → List MediaRange
ranges_or_any [] = range_with (codes "*") (codes "*") 1000 ∷ []
ranges_or_any (range ∷ ranges) = range ∷ ranges

-- the quality of a form, in thousandths
unfoldable pub quality : List ℕ → Form → ℕ
quality accept form = quality_among form (ranges_or_any (ranges_of accept))

-- the first offer of the greatest quality, where that is above 0
unfoldable pub chosen : List ℕ → List Form → Option Form
chosen accept offers = first_greatest (quality accept) offers

-- how the most specific range matches a form, and its quality
abbrev pub best_by : Form → Option MediaRange → Best
best_by form None = record { specificity = NoMatch; quality = 0 }
best_by form (Some range) = record { specificity = specificity form range; quality = range.quality }

unfoldable pub best_of : Form → List MediaRange → Best
best_of form ranges = best_by form (range_for form ranges)
