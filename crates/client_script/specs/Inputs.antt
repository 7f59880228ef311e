-- The bytes of a script: its lines, and what a reader holds of them.
use Rattle.std.specs.Prelude.{◌≡◌, ℕ, ◌≤◌, Bool, true, false, ◌==◌, List, [], ◌∷◌, ◌++◌, Option, Some, None, if◌then◌else◌}
use Rattle.rdf_io.specs.Causes.{Rose}

-- the source tells its bytes, and behind those that are held they are b
abbrev pub IsStream : List ℕ → Option (List ℕ) → List ℕ → Type 0
IsStream held left b = (rest : List ℕ) × (left ≡ Some rest) × (b ≡ held ++ rest)

-- a step leaves the stream as it is, where the source tells it
abbrev pub KeepsStream : List ℕ → Option (List ℕ) → List ℕ → Option (List ℕ) → Type 0
KeepsStream held left held' left' = (b : List ℕ) → IsStream held left b → IsStream held' left' b

-- the count rose where a fault is answered, and else it stands
abbrev pub Caused : Bool → ℕ → ℕ → Type 0
Caused true before now = (before ≤ now) × Rose before now
Caused false before now = now ≡ before

-- LF
abbrev pub is_lf : ℕ → Bool
is_lf b = b == 10

-- the bytes before the first LF, or all where there is none, and what follows that LF
abbrev pub cut_line : List ℕ → List ℕ × List ℕ
cut_line [] = ([], [])
cut_line (b ∷ bs) = if is_lf b then ([], bs) else (b ∷ (cut_line bs).0, (cut_line bs).1)

-- The first line of a text and what follows it: a line ends at LF, or where the text ends. A text without a byte has no line.
abbrev pub first_line : List ℕ → Option (List ℕ × List ℕ)
first_line [] = None
first_line (b ∷ bs) = Some (cut_line (b ∷ bs))
