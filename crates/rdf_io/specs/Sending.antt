-- What a sink took of a text.
use Rattle.std.specs.Prelude.{◌≡◌, ℕ, List, ◌++◌, Option, Some, Result, MatchResult}

-- where the sink tells what it took, it took the text
abbrev pub Puts : Option (List ℕ) → Option (List ℕ) → List ℕ → Type 0
Puts old new text = (t : List ℕ) → old ≡ Some t → new ≡ Some (t ++ text)

-- the part is the text as far as it was written
abbrev pub IsPartOf : List ℕ → List ℕ → Type 0
IsPartOf part text = (lost : List ℕ) × (text ≡ part ++ lost)

-- the sink took all of the text, or at a fault a first part of it
abbrev pub Sends : {E : Type 0} → Option (List ℕ) → Option (List ℕ) → List ℕ → Result (Unit {0}) E → Type 0
Sends old new text r = MatchResult r (λ _. Puts old new text) (λ _. (part : List ℕ) × IsPartOf part text × Puts old new part)
