-- Fields by their names, and lists of tokens in their values (RFC 9110, sections 5.1 and 5.6.1).
use Rattle.std.specs.Prelude.{ℕ, Bool, ◌&&◌, ◌||◌, ◌==◌, List, map, codes}
use Rattle.std.specs.List.{list_any, slice_split, filter}
use Rattle.std.specs.Char.{to_ascii_lowercase}
use Rattle.std.specs.Str.{bytes_eq}
use Rattle.httparse.specs.Grammar.{trim_ows}

-- the two texts are equal without case
abbrev pub same_name : List ℕ → List ℕ → Bool
same_name a b = bytes_eq (map to_ascii_lowercase a) (map to_ascii_lowercase b)

-- the field has this name
abbrev pub is_named : List ℕ → (List ℕ × List ℕ) → Bool
is_named name field = same_name field.0 name

-- the values of the fields of this name, in their order
abbrev pub values_of : List ℕ → List (List ℕ × List ℕ) → List (List ℕ)
values_of name fields = map (λ (field : List ℕ × List ℕ). field.1) (filter (is_named name) fields)

-- the element of a list is this token; white space around it and case don't count
abbrev pub is_element : List ℕ → List ℕ → Bool
is_element token element = same_name (trim_ows element) token

-- the value is a list of tokens, cut at commas, that has this one
abbrev pub has_token : List ℕ → List ℕ → Bool
has_token token value = list_any (is_element token) (slice_split (λ b. b == 44) value)

-- a field of this name has this token
abbrev pub has_option : List ℕ → List ℕ → List (List ℕ × List ℕ) → Bool
has_option name token fields = list_any (λ field. is_named name field && has_token token field.1) fields

-- the connection ends after the response to a request of version 1.0, or with the option `close` (RFC 9112, section 9.6)
abbrev pub closes : ℕ → List (List ℕ × List ℕ) → Bool
closes minor fields = minor == 0 || has_option (codes "connection") (codes "close") fields
