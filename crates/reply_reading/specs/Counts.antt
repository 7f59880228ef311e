-- Numbers as decimal digits.
use Rattle.std.specs.Prelude.{ℕ, Bool, ◌&&◌, ◌^◌, List, length, Option, Some, None, if◌then◌else◌, nat_lt}
use Rattle.std.specs.List.{list_all}
use Rattle.std.specs.Char.{is_ascii_digit}
use Rattle.std.specs.Str.Parse.{digits_value}

-- decimal digits, one or more and nothing else
abbrev pub is_numeral : List ℕ → Bool
is_numeral text = nat_lt 0 (length text) && list_all is_ascii_digit text

-- the number that they write, where it is below 2 ^ 64
unfoldable pub count_of : List ℕ → Option ℕ
count_of text = if is_numeral text && nat_lt (digits_value 10 text) (2 ^ 64) then Some (digits_value 10 text) else None
