-- How a reader waits for the end of a line. No contract of a public call cites it.
use Rattle.std.specs.Prelude.{◌≡◌, ℕ, ◌<◌, Bool, false, List, [], ◌++◌, length, take, Option, Some, slice_index}
use Rattle.std.specs.List.{list_any}
use Rattle.client_script.specs.Inputs.{KeepsStream, is_lf}
use Rattle.client_script.specs.declared.input.Wait.{Wait}
use Rattle.client_script.specs.declared.input.Wait.TheVariants.{Ended, Full, Over}

abbrev pub has_lf : List ℕ → Bool
has_lf bytes = list_any is_lf bytes

-- the first LF stands at this place
pub record IsFirstLf (bytes : List ℕ) (n : ℕ) : Type 0 where
  pub within : n < length bytes
  pub none : has_lf (take n bytes) ≡ false
  pub at : slice_index bytes n ≡ 10

-- a fill left the stream; it answers how many bytes came, and none only at the source's end
pub record Fills (held : List ℕ) (left : Option (List ℕ)) (held' : List ℕ) (left' : Option (List ℕ)) (n : ℕ) : Type 0 where
  pub grown : (bs : List ℕ) × (held' ≡ held ++ bs) × (length bs ≡ n)
  pub same : KeepsStream held left held' left'
  pub end : n ≡ 0 → (rest : List ℕ) → left' ≡ Some rest → rest ≡ []

-- the wait ended at an LF at this place, with a full buffer, or at the end of the source
abbrev pub Waits : List ℕ → Option (List ℕ) → Wait → Type 0
Waits held left (Ended n) = IsFirstLf held n × (n < 1048577)
Waits held left Full = (has_lf held ≡ false) × (length held ≡ 1048577)
Waits held left Over = (has_lf held ≡ false) × ((rest : List ℕ) → left ≡ Some rest → rest ≡ [])
