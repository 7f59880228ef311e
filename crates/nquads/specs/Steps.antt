-- What one step of the writer of triples does.
use Rattle.std.specs.Prelude.{◌≡◌, ℕ, List, ◌++◌, length, drop, Bool, true, false}
use Rattle.std.specs.Str.{bytes_eq}

-- the line equals the last one, so that nothing was appended; or it was appended, and begins where the bytes ended before
abbrev pub NextTriple : Bool → List ℕ → ℕ → List ℕ → ℕ → List ℕ → Type 0
NextTriple true line last old start new = (start ≡ last) × (new ≡ old)
NextTriple false line last old start new = (start ≡ length old) × (new ≡ old ++ line)

-- the line was appended unless it equals the last one, which begins at last; and the last one now begins at start
abbrev pub IsNextTriple : List ℕ → ℕ → List ℕ → ℕ → List ℕ → Type 0
IsNextTriple line last old start new = NextTriple (bytes_eq line (drop last old)) line last old start new
