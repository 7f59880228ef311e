-- The values of the fields of one name, as the code sees them. No contract of a public call cites it.
use Rattle.std.specs.Prelude.{◌≡◌, ℕ, ◌<◌, List, [], ◌∷◌, length}
use Rattle.http_frame.specs.declared.fields.Values.{Values}
use Rattle.http_frame.specs.declared.fields.Values.TheVariants.{None, One, More}

-- there is no value, this one, or more
abbrev pub AreValues : List (List ℕ) → Values → Type 0
AreValues values None = values ≡ []
AreValues values (One value) = values ≡ value.now ∷ []
AreValues values More = 1 < length values
