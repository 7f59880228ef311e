-- The slots of patterns with numbers in the place of unknowns, and their values in a row.
use Rattle.std.specs.Prelude.{ℕ, ◌+◌, List, [], ◌∷◌, Option, Some, None, if◌then◌else◌, slice_index_or}
use Rattle.rdf_term.specs.declared.term.Term.{Term}
use Rattle.query_model.specs.declared.query.Slot.{Slot}
use Rattle.query_model.specs.declared.query.Slot.TheVariants.{Var, Blank, Fixed}
use Rattle.bgp_eval.specs.declared.part.Part.{Part}
use Rattle.bgp_eval.specs.declared.part.Part.TheVariants.{Given, Unknown, Unbound}
use Rattle.query_model.specs.Unknowns.{is_same}

-- the next number
abbrev pub next : Option ℕ → Option ℕ
next None = None
next (Some n) = Some (n + 1)

-- the number of an unknown among these, from 0
abbrev pub number_in : List Slot → Slot → Option ℕ
number_in [] x = None
number_in (name ∷ names) x = if is_same x name then Some 0 else next (number_in names x)

-- what stands for an unknown: its number, where it has one
abbrev pub numbered : Option ℕ → Part
numbered None = Unbound
numbered (Some n) = Unknown n

abbrev pub part_of : List Slot → Slot → Part
part_of names (Var x) = numbered (number_in names (Var x))
part_of names (Blank x) = numbered (number_in names (Blank x))
part_of names (Fixed t) = Given t

-- the value of a part in a row
abbrev pub part_value : List (Option Term) → Part → Option Term
part_value row (Given t) = Some t
part_value row (Unknown n) = slice_index_or row n None
part_value row Unbound = None
