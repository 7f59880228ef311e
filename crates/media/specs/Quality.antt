-- The quality that an element of an Accept value gives, in thousandths (RFC 9110, section 12.4.2).
use Rattle.std.specs.Prelude.{ℕ, Bool, ◌&&◌, false, ◌==◌, ◌+◌, ◌*◌, ◌-◌, List, [], ◌∷◌, Option, Some, None, if◌then◌else◌, drop, filter, map, codes}
use Rattle.std.specs.List.{before_first, after_first, slice_split}
use Rattle.std.specs.Option.{option_map_or}
use Rattle.std.specs.Char.{is_ascii_digit}
use Rattle.std.specs.Str.{str_eq_ignore_ascii_case}
use Rattle.media.specs.declared.quality.Weight.{Weight}
use Rattle.media.specs.declared.quality.Weight.TheVariants.{Absent, Given, Refused}
use Rattle.media.specs.Pieces.{trimmed, is_semicolon, is_equals}

-- three decimals in thousandths, where they are digits
abbrev pub in_thousandths : ℕ → ℕ → ℕ → Option ℕ
in_thousandths a b c =
    if is_ascii_digit a && is_ascii_digit b && is_ascii_digit c then Some (100 * (a - 48) + 10 * (b - 48) + (c - 48)) else None

-- at most three decimals, in thousandths; missing ones are zeros
abbrev pub decimals : List ℕ → Option ℕ
decimals [] = Some 0
decimals (a ∷ []) = in_thousandths a 48 48
decimals (a ∷ b ∷ []) = in_thousandths a b 48
decimals (a ∷ b ∷ c ∷ []) = in_thousandths a b c
decimals (a ∷ b ∷ c ∷ d ∷ more) = None

-- [ "." 0*3DIGIT ], in thousandths
abbrev pub fraction : List ℕ → Option ℕ
fraction [] = Some 0
fraction (point ∷ digits) = if point == 46 then decimals digits else None

abbrev pub is_zero : Option ℕ → Bool
is_zero thousandths = option_map_or (λ n. n == 0) thousandths false

-- qvalue = ( "0" [ "." 0*3DIGIT ] ) / ( "1" [ "." 0*3("0") ] ), in thousandths
unfoldable pub qvalue : List ℕ → Option ℕ
qvalue [] = None
qvalue (whole ∷ rest) = if whole == 48 then fraction rest else (if whole == 49 && is_zero (fraction rest) then Some 1000 else None)

-- the name q, in any case of letters
abbrev pub is_q : List ℕ → Bool
is_q name = str_eq_ignore_ascii_case name (codes "q")

-- the name of a parameter is q, also where white space stands behind it
abbrev pub is_weight : List ℕ → Bool
is_weight parameter = is_q (trimmed (before_first is_equals parameter))

-- "q=" qvalue, without white space around its `=`
abbrev pub weight_value : List ℕ → Option ℕ
weight_value parameter = if is_q (before_first is_equals parameter) then qvalue (after_first is_equals parameter) else None

-- one parameter named q gives the quality, where it is of the form
abbrev pub one_weight : Option ℕ → Weight
one_weight None = Refused
one_weight (Some quality) = Given quality

-- what the parameters named q say together: there may be one of them
abbrev pub weights : List (List ℕ) → Weight
weights [] = Absent
weights (parameter ∷ []) = one_weight (weight_value parameter)
weights (parameter ∷ other ∷ more) = Refused

-- what parameters say of the quality: only those named q count
abbrev pub weight_of : List (List ℕ) → Weight
weight_of parameters = weights (filter is_weight parameters)

-- without a parameter q the quality is 1
abbrev pub quality_by : Weight → Option ℕ
quality_by Absent = Some 1000
quality_by (Given quality) = Some quality
quality_by Refused = None

-- parameters = *( OWS ";" OWS [ parameter ] ) (section 5.6.6): what stands behind each `;` of an element
abbrev pub parameters_of : List ℕ → List (List ℕ)
parameters_of element = map trimmed (drop 1 (slice_split is_semicolon element))

-- the quality of an element, where its parameters give one
unfoldable pub quality_of : List ℕ → Option ℕ
quality_of element = quality_by (weight_of (parameters_of element))
