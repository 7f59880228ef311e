-- How the values of Accept are joined one by one. No contract of a public call cites it.
use Rattle.std.specs.Prelude.{ℕ, List, [], ◌∷◌, ◌++◌, Option, Some, None, if◌then◌else◌, codes}
use Rattle.http_frame.specs.Fields.{is_named}

-- values with commas between them, where there is one, and one value more
abbrev pub joined_with : Option (List ℕ) → List ℕ → Option (List ℕ)
joined_with None value = Some value
joined_with (Some text) value = Some (text ++ 44 ∷ value)

-- the same with the value of a field, where it is named Accept
abbrev pub joined_field : Option (List ℕ) → List ℕ × List ℕ → Option (List ℕ)
joined_field joined field = if is_named (codes "accept") field then joined_with joined field.1 else joined

-- the text, where there is one
abbrev pub text_or_empty : Option (List ℕ) → List ℕ
text_or_empty None = []
text_or_empty (Some text) = text
