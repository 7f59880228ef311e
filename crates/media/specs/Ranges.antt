-- The ranges of an Accept value, and how they match a form (RFC 9110, section 12.5.1).
use Rattle.std.specs.Prelude.{ℕ, Bool, ◌&&◌, ◌||◌, not, List, Option, None, if◌then◌else◌, codes}
use Rattle.std.specs.List.{before_first, after_first, filter_map, slice_split}
use Rattle.std.specs.Option.{option_map}
use Rattle.std.specs.Str.{bytes_eq, str_eq_ignore_ascii_case}
use Rattle.media.specs.declared.form.Form.{Form}
use Rattle.media.specs.declared.specificity.Specificity.{Specificity}
use Rattle.media.specs.declared.specificity.Specificity.TheVariants.{NoMatch, AnyType, AnySubtype, Exact}
use Rattle.media.specs.Forms.{main_type_of, subtype_of}
use Rattle.media.specs.Pieces.{trimmed, is_token, is_comma, is_semicolon, is_slash}
use Rattle.media.specs.Quality.{quality_of}
use Rattle.media.specs.MediaRange.{MediaRange}

abbrev pub is_star : List ℕ → Bool
is_star text = bytes_eq text (codes "*")

-- "*/*" / ( type "/" "*" ) / ( type "/" subtype ): two tokens, and the first is `*` only where both are
unfoldable pub is_range_text : List ℕ → List ℕ → Bool
is_range_text main_type subtype = is_token main_type && is_token subtype && (is_star subtype || not (is_star main_type))

-- the text in front of an element's parameters
abbrev pub range_text : List ℕ → List ℕ
range_text element = trimmed (before_first is_semicolon element)

abbrev pub range_with : List ℕ → List ℕ → ℕ → MediaRange
range_with main_type subtype quality = record { main_type = main_type; subtype = subtype; quality = quality }

-- the range of these parts, where they are of the form
unfoldable pub range_by : List ℕ → List ℕ → Option ℕ → Option MediaRange
range_by main_type subtype quality = if is_range_text main_type subtype then option_map (range_with main_type subtype) quality else None

-- the range that an element is, where it is of the form
unfoldable pub range_of : List ℕ → Option MediaRange
range_of element = range_by (before_first is_slash (range_text element)) (after_first is_slash (range_text element)) (quality_of element)

-- the ranges of a value, which is cut at commas: its elements that are of the form, in order
unfoldable pub ranges_of : List ℕ → List MediaRange
ranges_of accept = filter_map range_of (slice_split is_comma accept)

-- how specific a range of the form's type is: it names the subtype or none
abbrev pub specificity_in_type : Form → List ℕ → Specificity
specificity_in_type form subtype =
    if is_star subtype then AnySubtype else (if str_eq_ignore_ascii_case subtype (subtype_of form) then Exact else NoMatch)

-- how specific a range is for a form: it names the type and the subtype, the type, or neither; media types are compared without case
unfoldable pub specificity : Form → MediaRange → Specificity
specificity form range =
    if is_star range.main_type then AnyType
    else (if str_eq_ignore_ascii_case range.main_type (main_type_of form) then specificity_in_type form range.subtype else NoMatch)

-- a more specific range has a higher rank
abbrev pub rank_of : Specificity → ℕ
rank_of NoMatch = 0
rank_of AnyType = 1
rank_of AnySubtype = 2
rank_of Exact = 3
