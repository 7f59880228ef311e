-- How the list that a pass has seen goes on by a call.
use Rattle.std.specs.Prelude.{◌≡◌, ◌<◌, ℕ, suc, ◌+◌, ◌==◌, if◌then◌else◌, List, [], ◌∷◌, ◌++◌, length, Some, slice_get}
use Rattle.journal.specs.declared.entry.Entry.{Entry}
use Rattle.journal.specs.declared.limits.Limits.{Limits}
use Rattle.journal.specs.declared.op.Op.{Op}
use Rattle.journal.specs.Journal.{entry_of}

-- the places of the entries with this seat's number, where the first entry stands at this place
abbrev pub places_of : ℕ → ℕ → List Entry → List ℕ
places_of seat at [] = []
places_of seat at (e ∷ es) = if e.seat == seat then at ∷ places_of seat (suc at) es else places_of seat (suc at) es

-- The list goes on, and past the old one the entries with this seat's number stand exactly at these places, in order.
pub record Goes (seat : ℕ) (old new : List Entry) (places : List ℕ) : Type 0 where
  pub more : List Entry
  pub begins : new ≡ old ++ more
  pub own : places_of seat (length old) more ≡ places

-- The list goes on by entries of other seats and then by this one of the seat, which stands at the place, and there was room for it.
pub record Adds (limits : Limits) (seat : ℕ) (old new : List Entry) (op : Op) (place : ℕ) : Type 0 where
  pub goes : Goes seat old new (place ∷ [])
  pub stands : slice_get new place ≡ Some (entry_of seat op)
  pub last : length new ≡ place + 1
  pub room : place < limits.places
