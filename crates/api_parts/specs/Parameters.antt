-- The parameters of a request's target: what stands behind its first `?`, in the syntax
-- application/x-www-form-urlencoded (URL Standard, section 5).
use Rattle.std.specs.Prelude.{ℕ, Bool, ◌==◌, ◌+◌, List, drop, map, Option, Some, None, if◌then◌else◌}
use Rattle.std.specs.List.{before_first, filter_map, position_or_len}
use Rattle.std.specs.Str.{bytes_eq}
use Rattle.std.specs.Str.Lossy.{utf8_lossy}
use Rattle.form_urlencoded.specs.Form.{raw_pairs, decode}

abbrev pub is_question : ℕ → Bool
is_question b = b == 63

-- what stands before the first `?` of a target
abbrev pub path_of : List ℕ → List ℕ
path_of target = before_first is_question target

-- what stands behind it
abbrev pub query_of : List ℕ → List ℕ
query_of target = drop (position_or_len is_question target + 1) target

-- what an encoded text stands for, in UTF-8: U+FFFD where it isn't UTF-8
abbrev pub decoded : List ℕ → List ℕ
decoded text = utf8_lossy (decode text)

abbrev pub decoded_pair : List ℕ × List ℕ → List ℕ × List ℕ
decoded_pair pair = (decoded pair.0, decoded pair.1)

-- the parameters in order, each with its name and its value
abbrev pub parameters : List ℕ → List (List ℕ × List ℕ)
parameters query = map decoded_pair (raw_pairs query)

-- the value of a parameter, where it has this name
abbrev pub value_of : List ℕ → List ℕ × List ℕ → Option (List ℕ)
value_of name pair = if bytes_eq pair.0 name then Some pair.1 else None

-- the values of the parameters of a name, in order
abbrev pub values_of : List ℕ → List (List ℕ × List ℕ) → List (List ℕ)
values_of name pairs = filter_map (value_of name) pairs
