-- Rows that are bound in place, and taken back.
use Rattle.std.specs.Prelude.{◌≡◌, ℕ, List, Option, Some, None, slice_set}
use Rattle.rdf_term.specs.declared.term.Term.{Term}
use Rattle.bgp_eval.specs.declared.row.Places.{Places}

-- a row in which a place is unbound
abbrev pub unbound : Option ℕ → List (Option Term) → List (Option Term)
unbound None row = row
unbound (Some n) row = slice_set row n None

-- a row in which these places are unbound, the last one that was bound first
abbrev pub taken_back : Places → List (Option Term) → List (Option Term)
taken_back places row = unbound places.s (unbound places.p (unbound places.o (unbound places.graph row)))

abbrev pub no_places : Places
no_places = record { s = None; p = None; o = None; graph = None }

-- The row became the next one, and is the old one again once these places are unbound; or there is no next one, and it stayed as it was.
abbrev pub IsTried : Option Places → Option (List (Option Term)) → List (Option Term) → List (Option Term) → Type 0
IsTried None next old new = (next ≡ None) × (new ≡ old)
IsTried (Some places) next old new = (next ≡ Some new) × (taken_back places new ≡ old)
