-- What contracts see of a commit log.
use Rattle.std.specs.Prelude.{ℕ, ◌<◌, List, [], ◌∷◌}
use Rattle.change_set.specs.declared.change.Change.{Change}

-- what the entry at a place changed
pub record LoggedDelta : Type 0 where
  pub place : ℕ
  pub changes : List Change

-- the kept deltas from the oldest to the newest, and the greatest number given to `trim`
pub record LogValue : Type 0 where
  pub kept : List LoggedDelta
  pub trimmed : ℕ

-- the place is above all kept ones
abbrev pub AllBelow : ℕ → List LoggedDelta → Type 0
AllBelow place [] = Unit {0}
AllBelow place (it ∷ others) = (it.place < place) × AllBelow place others
