-- What a writer did to the bytes that it appends to.
use Rattle.std.specs.Prelude.{◌≡◌, ℕ, List, ◌++◌, MatchResult}
use Rattle.std.specs.declared.result.Result.{Result}

-- the list has more at its end, or the same
abbrev pub Extends : List ℕ → List ℕ → Type 0
Extends old new = (more : List ℕ) × (new ≡ old ++ more)

-- these bytes were appended, or without memory perhaps some others, behind which the old ones can be cut out again
abbrev pub Appends : {E : Type 0} → Result (Unit {0}) E → List ℕ → List ℕ → List ℕ → Type 0
Appends r old new bytes = MatchResult r (λ _. new ≡ old ++ bytes) (λ _. Extends old new)
