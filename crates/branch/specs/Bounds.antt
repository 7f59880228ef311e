-- How many layers a stack has, and how large each is.
use Rattle.std.specs.Prelude.{◌≡◌, ℕ, ◌+◌, ◌*◌, ◌^◌, ◌<◌, ◌≤◌, List, [], ◌∷◌, ◌++◌, length, take, slice_index_or}
use Rattle.rdf_term.specs.Statement.{Statement}
use Rattle.change_set.specs.declared.change.Change.{Change}
use Rattle.change_set.specs.Content.{applied}
use Rattle.branch.specs.Layers.{layered}

-- each layer has changes, a number that a u64 holds, and at least twice as many as the layer above it; the oldest is the first
pub record IsHalving (layers : List (List Change)) : Type 0 where
  pub some : (k : ℕ) (d : List Change) → k < length layers → 1 ≤ length (slice_index_or layers k d)
  pub small : (k : ℕ) (d : List Change) → k < length layers → length (slice_index_or layers k d) < 2 ^ 64
  pub twice : (k : ℕ) (d : List Change) → k + 1 < length layers → 2 * length (slice_index_or layers (k + 1) d) ≤ length (slice_index_or layers k d)

-- of the layers those below a number stay, and the changes on top of these do what the others and then the new ones do
pub record IsRaised (layers : List (List Change)) (set : List Change) (below : ℕ) (top : List Change) : Type 0 where
  pub within : below ≤ length layers
  pub small : length top < 2 ^ 64
  pub content : (base : List Statement) → applied (layered base (take below layers)) top ≡ applied (layered base layers) set
  pub twice : (k : ℕ) (d : List Change) → k + 1 ≡ below → 2 * length top ≤ length (slice_index_or layers k d)

-- the layers below a number, and on top of them a layer, where it has changes
abbrev pub topped : List (List Change) → ℕ → List Change → List (List Change)
topped layers below [] = take below layers
topped layers below (c ∷ cs) = take below layers ++ (c ∷ cs) ∷ []
