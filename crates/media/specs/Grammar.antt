-- The grammar of an element of an Accept value, rule by rule (RFC 9110, sections 5.6, 12.4.2 and 12.5.1).
use Rattle.std.specs.Prelude.{◌≡◌, ◌≢◌, ℕ, Bool, false, IsTrue, ◌+◌, ◌*◌, ◌-◌, ◌^◌, ◌≤◌, ◌⊎◌, List, [], ◌∷◌, ◌++◌, length, reverse, fold, All}
use Rattle.std.specs.List.{AllZip, join_with_byte, list_all}
use Rattle.std.specs.Char.{is_ascii_digit}
use Rattle.media.specs.Pieces.{is_space}
use Rattle.media.specs.Quality.{is_weight}
use Rattle.media.specs.MediaRange.{MediaRange}
use Rattle.media.specs.Ranges.{is_range_text}

-- OWS = *( SP / HTAB )
abbrev pub AreSpaces : List ℕ → Type 0
AreSpaces text = IsTrue (list_all is_space text)

abbrev pub begins_with_space : List ℕ → Bool
begins_with_space [] = false
begins_with_space (b ∷ bs) = is_space b

-- OWS piece OWS, where white space stands at neither end of the piece
pub record IsPadded (text piece : List ℕ) : Type 0 where
  pub before : List ℕ
  pub behind : List ℕ
  pub whole : text ≡ before ++ piece ++ behind
  pub spaces_before : AreSpaces before
  pub spaces_behind : AreSpaces behind
  pub begins : begins_with_space piece ≡ false
  pub ends : begins_with_space (reverse piece) ≡ false

-- the number that decimal digits write
abbrev pub number : List ℕ → ℕ
number digits = fold (λ n digit. 10 * n + (digit - 48)) 0 digits

-- [ "." 0*3DIGIT ], of n thousandths
abbrev pub IsFraction : List ℕ → ℕ → Type 0
IsFraction [] n = n ≡ 0
IsFraction (point ∷ digits) n = (point ≡ 46) × IsTrue (list_all is_ascii_digit digits) × (length digits ≤ 3) × (n ≡ number digits * 10 ^ (3 - length digits))

-- qvalue = ( "0" [ "." 0*3DIGIT ] ) / ( "1" [ "." 0*3("0") ] ), of n thousandths
abbrev pub IsQvalue : List ℕ → ℕ → Type 0
IsQvalue [] n = ⊥
IsQvalue (digit ∷ fraction) n = ((digit ≡ 48) × IsFraction fraction n) ⊎ ((digit ≡ 49) × IsFraction fraction 0 × (n ≡ 1000))

-- "q=" qvalue, with a small or a capital letter
pub record IsWeight (parameter : List ℕ) (n : ℕ) : Type 0 where
  pub letter : ℕ
  pub value : List ℕ
  pub whole : parameter ≡ letter ∷ 61 ∷ value
  pub is_q : (letter ≡ 113) ⊎ (letter ≡ 81)
  pub qvalue : IsQvalue value n

-- no parameter is named q
abbrev pub NoneNamedQ : List (List ℕ) → Type 0
NoneNamedQ parameters = All (λ parameter. is_weight parameter ≡ false) parameters

-- one parameter is named q, and it is a weight
pub record IsGiven (parameters : List (List ℕ)) (n : ℕ) : Type 0 where
  pub before : List (List ℕ)
  pub parameter : List ℕ
  pub behind : List (List ℕ)
  pub whole : parameters ≡ before ++ parameter ∷ behind
  pub none_before : NoneNamedQ before
  pub none_behind : NoneNamedQ behind
  pub weight : IsWeight parameter n

-- the quality that parameters give, in thousandths
abbrev pub IsQuality : List (List ℕ) → ℕ → Type 0
IsQuality parameters n = (NoneNamedQ parameters × (n ≡ 1000)) ⊎ IsGiven parameters n

-- no `;` stands in the text
abbrev pub NoSemicolon : List ℕ → Type 0
NoSemicolon text = All (λ b. b ≢ 59) text

-- An element: OWS media-range OWS *( ";" OWS parameter OWS ). It is parts without a `;`, with one between each two; the first part is a
-- type and a subtype with a `/` between them, and each other part is a parameter.
pub record IsElement (text : List ℕ) (range : MediaRange) : Type 0 where
  pub first : List ℕ
  pub others : List (List ℕ)
  pub whole : text ≡ join_with_byte 59 (first ∷ others)
  pub apart : All NoSemicolon (first ∷ others)
  pub media_range : IsPadded first (range.main_type ++ 47 ∷ range.subtype)
  pub of_form : IsTrue (is_range_text range.main_type range.subtype)
  pub parameters : List (List ℕ)
  pub padded : AllZip IsPadded others parameters
  pub quality : IsQuality parameters range.quality
