-- Worked cases by computation.
use Rattle.std.proofs.Common.{◌≡◌, refl, inl, lit≤, ℕ, [], ◌∷◌, Some, None, codes}
use Rattle.media.specs.declared.form.Form.TheVariants.{NQuads, XNQuads, ResultsJson, Json, Boolean, PlainText}
use Rattle.media.specs.declared.specificity.Specificity.TheVariants.{NoMatch, Exact}
use Rattle.media.specs.Forms.{content_type_of}
use Rattle.media.specs.Grammar.{IsQvalue}
use Rattle.media.specs.Pieces.{trimmed}
use Rattle.media.specs.Quality.{qvalue, quality_of}
use Rattle.media.specs.Ranges.{is_range_text, range_by, range_of, range_with, ranges_of, specificity}
use Rattle.media.specs.Greatest.{first_greatest}
use Rattle.media.specs.Choice.{quality, chosen}

plain_text : content_type_of PlainText ≡ codes "text/plain;charset=UTF-8"
plain_text = refl

-- of two elements of the greatest key the first is taken
first_of_two : first_greatest (λ (p : ℕ × ℕ). p.0) ((0, 0) ∷ (2, 1) ∷ (5, 2) ∷ (5, 3) ∷ []) ≡ Some (5, 2)
unfolding first_greatest
first_of_two = refl

all_zero : first_greatest (λ n. n) (0 ∷ 0 ∷ []) ≡ None
unfolding first_greatest
all_zero = refl

-- the grammar and the definition that computes, at one quality
quarter_of_the_grammar : IsQvalue (codes "0.25") 250
quarter_of_the_grammar = inl (refl, (refl, refl, lit≤ tt, refl))

quarter : qvalue (codes "0.25") ≡ Some 250
unfolding qvalue
quarter = refl

tenth : qvalue (codes "0.1") ≡ Some 100
unfolding qvalue
tenth = refl

no_decimals : qvalue (codes "1.") ≡ Some 1000
unfolding qvalue
no_decimals = refl

above_one : qvalue (codes "1.001") ≡ None
unfolding qvalue
above_one = refl

fourth_decimal : qvalue (codes "0.1234") ≡ None
unfolding qvalue
fourth_decimal = refl

-- white space around the pieces, another parameter and the name Q
spaced : range_of (codes " text/* ;level=1; Q=0.05 ") ≡ Some (range_with (codes "text") (codes "*") 50)
unfolding range_of range_by is_range_text quality_of qvalue trimmed
spaced = refl

-- a space before the `=` of q, a second q, a type that is `*` by itself
space_in_weight : range_of (codes "text/plain;q =1") ≡ None
unfolding range_of range_by is_range_text quality_of qvalue trimmed
space_in_weight = refl

two_weights : range_of (codes "text/plain;q=1;q=1") ≡ None
unfolding range_of range_by is_range_text quality_of qvalue trimmed
two_weights = refl

any_type_one_subtype : range_of (codes "*/json") ≡ None
unfolding range_of range_by is_range_text quality_of qvalue trimmed
any_type_one_subtype = refl

other_case : specificity Json (range_with (codes "Application") (codes "JSON") 1000) ≡ Exact
unfolding specificity
other_case = refl

other_subtype : specificity Json (range_with (codes "application") (codes "jso") 1000) ≡ NoMatch
unfolding specificity
other_subtype = refl

-- a media type that isn't offered
not_offered : chosen (codes "application/rdf+xml") (NQuads ∷ XNQuads ∷ []) ≡ None
unfolding chosen quality ranges_of range_of range_by is_range_text quality_of qvalue trimmed specificity first_greatest
not_offered = refl

second_offer : chosen (codes "text/*;q=0.5, application/json") (ResultsJson ∷ Json ∷ []) ≡ Some Json
unfolding chosen quality ranges_of range_of range_by is_range_text quality_of qvalue trimmed specificity first_greatest
second_offer = refl

-- no element is of the form, so each offer has the quality 1
nothing_left : chosen (codes "text, */json,, text/plain;q=2") (Boolean ∷ PlainText ∷ []) ≡ Some Boolean
unfolding chosen quality ranges_of range_of range_by is_range_text quality_of qvalue trimmed specificity first_greatest
nothing_left = refl

-- of two equally specific ranges the first counts
first_of_equal : quality (codes "application/json;q=0, application/json") Json ≡ 0
unfolding quality ranges_of range_of range_by is_range_text quality_of qvalue trimmed specificity first_greatest
first_of_equal = refl

-- a more specific range counts, also where it stands last and has the lower quality
most_specific : quality (codes "*/*, text/*;q=0.5, text/plain;q=0.2") PlainText ≡ 200
unfolding quality ranges_of range_of range_by is_range_text quality_of qvalue trimmed specificity first_greatest
most_specific = refl

refused_type : chosen (codes "*/*, text/*;q=0") (PlainText ∷ Boolean ∷ []) ≡ None
unfolding chosen quality ranges_of range_of range_by is_range_text quality_of qvalue trimmed specificity first_greatest
refused_type = refl
