-- Lists of distinct items.
use Rattle.std.specs.Prelude.{◌≢◌, ℕ, ◌<◌, List, length, slice_index_or}

-- no item stands at two places
abbrev pub EachOnce : {X : Type 0} → List X → Type 0
EachOnce {X} xs = (i j : ℕ) (d : X) → i < j → j < length xs → slice_index_or xs i d ≢ slice_index_or xs j d
