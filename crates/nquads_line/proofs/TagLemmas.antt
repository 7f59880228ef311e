-- The parts of a tag.
use Rattle.std.proofs.Common.{ℕ, Bool, true, false, ◌||◌}
use Rattle.rdf_term.specs.Classes.{is_letter, is_digit}

-- the characters of a part, which may be digits after the first
abbrev pub part_of : Bool → ℕ → Bool
part_of false = is_letter
part_of true = λ d. is_letter d || is_digit d
