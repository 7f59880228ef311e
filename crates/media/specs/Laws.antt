-- What holds of elements and of ranges: the definitions that compute say what the rules say.
use Rattle.std.specs.Prelude.{◌≡◌, ℕ, List, All, Some, ◌↔◌, MatchOption}
use Rattle.media.specs.declared.form.Form.{Form}
use Rattle.media.specs.MediaRange.{MediaRange}
use Rattle.media.specs.Ranges.{range_of}
use Rattle.media.specs.Greatest.{IsFirstGreatest}
use Rattle.media.specs.Choice.{rank, range_for}
use Rattle.media.specs.Grammar.{IsElement}

-- an element of the grammar is the range that is read from it, and nothing else is read
abbrev pub OneRange : Type 0
OneRange = (text : List ℕ) (range : MediaRange) → (IsElement text range) ↔ (range_of text ≡ Some range)

-- the range that counts for a form is the first of the most specific ones, and none counts only where none matches
abbrev pub MostSpecific : Type 0
MostSpecific = (form : Form) (ranges : List MediaRange) → MatchOption (range_for form ranges) (All (λ range. rank form range ≡ 0) ranges) (IsFirstGreatest (rank form) ranges)
