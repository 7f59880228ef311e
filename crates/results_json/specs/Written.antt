-- Which tables are read again from what is written of them, as a test.
use Rattle.std.specs.Prelude.{ℕ, List, Bool, true, ◌&&◌, ◌==◌, Option, Some, None, length}
use Rattle.std.specs.List.{list_all}
use Rattle.rdf_term.specs.declared.term.Term.{Term}
use Rattle.rdf_term.specs.Validity.{is_valid}

-- nothing, or a valid term
abbrev pub is_right_cell : Option Term → Bool
is_right_cell None = true
is_right_cell (Some term) = is_valid term

-- so many places, with valid terms
abbrev pub is_right_row : ℕ → List (Option Term) → Bool
is_right_row count row = (length row == count) && list_all is_right_cell row
