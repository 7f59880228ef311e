-- The transaction that a response names, by its field Location (RFC 9110, section 10.2.2).
use Rattle.std.specs.Prelude.{◌≡◌, ℕ, ◌≤◌, ◌==◌, List, [], ◌∷◌, Option, Some, None, option_and_then, if◌then◌else◌, codes}
use Rattle.std.specs.Option.{option_or}
use Rattle.journal.specs.declared.txn.Txn.{Txn}
use Rattle.http_frame.specs.Fields.{values_of}
use Rattle.api_paths.specs.TransactionNames.{name_of, most_place}

-- what stands behind a byte that is `/`
abbrev pub behind_first : ℕ → List ℕ → Option (List ℕ)
behind_first b rest = if b == 47 then Some rest else None

-- what stands behind the last `/`, where there is one
abbrev pub behind_slash : List ℕ → Option (List ℕ)
behind_slash [] = None
behind_slash (b ∷ bs) = option_or (behind_slash bs) (behind_first b bs)

-- the one value of a list
abbrev pub only_value : List (List ℕ) → Option (List ℕ)
only_value [] = None
only_value (v ∷ []) = Some v
only_value (v ∷ w ∷ vs) = None

-- the value of the field Location, where there is one such field
abbrev pub location_of : List (List ℕ × List ℕ) → Option (List ℕ)
location_of fields = only_value (values_of (codes "location") fields)

-- its last segment
abbrev pub location_name : List (List ℕ × List ℕ) → Option (List ℕ)
location_name fields = option_and_then behind_slash (location_of fields)

-- that segment is the name of the transaction
abbrev pub Locates : List (List ℕ × List ℕ) → Txn → Type 0
Locates fields t = (location_name fields ≡ Some (name_of t)) × (t.place ≤ most_place)
