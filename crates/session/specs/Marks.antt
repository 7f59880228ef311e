-- The journals of several repositories, and where a seat's entries stand in them.
use Rattle.std.specs.Prelude.{◌≡◌, ◌<◌, ℕ, zero, suc, ◌==◌, if◌then◌else◌, List, [], ◌∷◌, ◌++◌, length}
use Rattle.journal.specs.declared.entry.Entry.{Entry}
use Rattle.journal.specs.declared.entry.Mark.{Mark}

-- the journal of each repository, by the repository's number
abbrev pub Journals : Type 0
Journals = ℕ → List Entry

-- the journal b begins with all of a
abbrev pub Begins : List Entry → List Entry → Type 0
Begins a b = (more : List Entry) × (b ≡ a ++ more)

abbrev pub AllBegin : Journals → Journals → Type 0
AllBegin old new = (repo : ℕ) → Begins (old repo) (new repo)

-- the places of the entries with this seat's number, where the first entry stands at this place
abbrev pub places_of : ℕ → ℕ → List Entry → List ℕ
places_of seat at [] = []
places_of seat at (e ∷ es) = if e.seat == seat then at ∷ places_of seat (suc at) es else places_of seat (suc at) es

-- the places that these marks name in a repository, in order
abbrev pub places_in : ℕ → List Mark → List ℕ
places_in repo [] = []
places_in repo (m ∷ ms) = if m.repo == repo then m.place ∷ places_in repo ms else places_in repo ms

abbrev pub mark_at : ℕ → ℕ → Mark
mark_at repo place = record { repo = repo; place = place }

-- The journal goes on, and past the old one the entries with this seat's number stand exactly at these places, in order.
pub record Goes (seat : ℕ) (old new : List Entry) (places : List ℕ) : Type 0 where
  pub more : List Entry
  pub begins : new ≡ old ++ more
  pub own : places_of seat (length old) more ≡ places

-- Each journal goes on, and past the old ones the entries with the seat's number there stand exactly at these marks.
abbrev pub Moves : (ℕ → ℕ) → Journals → Journals → List Mark → Type 0
Moves seats old new marks = (repo : ℕ) → Goes (seats repo) (old repo) (new repo) (places_in repo marks)

-- so many places, one after another, of which this is the first
abbrev pub places_from : ℕ → ℕ → List ℕ
places_from at zero = []
places_from at (suc n) = at ∷ places_from (suc at) n

-- The journal is the old one, and behind it stand entries at exactly these places, in order.
pub record GrowsBy (old new : List Entry) (places : List ℕ) : Type 0 where
  pub more : List Entry
  pub begins : new ≡ old ++ more
  pub all : places ≡ places_from (length old) (length more)

-- Each journal is its old one, followed by the entries at the marks, in order, and by no other.
abbrev pub AllGrowBy : Journals → Journals → List Mark → Type 0
AllGrowBy old new marks = (repo : ℕ) → GrowsBy (old repo) (new repo) (places_in repo marks)

-- each of these marks names a place below this one
abbrev pub Below : ℕ → List Mark → Type 0
Below most [] = Unit {0}
Below most (m ∷ ms) = (m.place < most) × Below most ms
