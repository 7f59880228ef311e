-- What one more range says of a form, and whether a value has ranges.
use Rattle.std.proofs.Common.{◌≡◌, refl, ap, sym, ◌∙◌, ℕ, ◌<◌, ◌≤◌, Bool, true, false, ◌||◌, List, [], ◌∷◌, ◌++◌, Option, Some, None, is_some, option_to_list, map, arith}
use Rattle.std.specs.List.{All, filter_map, cons_option, list_any}
use Rattle.std.specs.Option.{option_map_or, MatchOption}
use Rattle.std.proofs.lemmas.List.{map-append}
use Rattle.std.proofs.lemmas.List.Elements.{filter_map-append}
use Rattle.media.specs.declared.form.Form.{Form}
use Rattle.media.specs.declared.choice.Best.{Best}
use Rattle.media.specs.MediaRange.{MediaRange}
use Rattle.media.specs.Greatest.{first_greatest, IsFirstGreatest}
use Rattle.media.specs.Laws.{MostSpecific}
use Rattle.media.specs.Ranges.{range_of, rank_of, specificity}
use Rattle.media.specs.Choice.{rank, range_for, best_by, best_of, quality_among, ranges_or_any}
use Rattle.media.proofs.GreatestLaws.{Gives, key_of, push_greater, push_other, computes, is_first}

rank_by : (form : Form) (found : Option MediaRange) → rank_of (best_by form found).specificity ≡ key_of (rank form) found
rank_by form None = refl
rank_by form (Some range) = refl

quality_by : (form : Form) (found : Option MediaRange) → (best_by form found).quality ≡ option_map_or (λ (range : MediaRange). range.quality) found 0
quality_by form None = refl
quality_by form (Some range) = refl

-- the rank of the most specific range so far
rank_so_far : (form : Form) (before : List MediaRange) (so_far : Best) → so_far ≡ best_of form before → rank_of so_far.specificity ≡ key_of (rank form) (range_for form before)
unfolding best_of
rank_so_far form before so_far e = ap (λ (b : Best). rank_of b.specificity) e ∙ rank_by form (range_for form before)

pub best_quality : (form : Form) (ranges : List MediaRange) (best : Best) → best ≡ best_of form ranges → best.quality ≡ quality_among form ranges
unfolding best_of
best_quality form ranges best e = ap (λ (b : Best). b.quality) e ∙ quality_by form (range_for form ranges)

-- a range that is more specific than each before it
takes : (form : Form) (before : List MediaRange) (range : MediaRange) (so_far : Best) → so_far ≡ best_of form before
    → rank_of so_far.specificity < rank form range → best_by form (Some range) ≡ best_of form (before ++ range ∷ [])
unfolding best_of
takes form before range so_far e h =
    let r = rank_so_far form before so_far e in
    let more : key_of (rank form) (range_for form before) < rank form range = omega arith in
    sym (ap (best_by form) (computes (rank form) (before ++ range ∷ []) (Some range) (push_greater (rank form) before (range_for form before) range (is_first (rank form) before) more)))

-- a range that isn't
keeps : (form : Form) (before : List MediaRange) (range : MediaRange) (so_far : Best) → so_far ≡ best_of form before
    → rank form range ≤ rank_of so_far.specificity → so_far ≡ best_of form (before ++ range ∷ [])
unfolding best_of
keeps form before range so_far e h =
    let r = rank_so_far form before so_far e in
    let less : rank form range ≤ key_of (rank form) (range_for form before) = omega arith in
    e ∙ sym (ap (best_by form) (computes (rank form) (before ++ range ∷ []) (range_for form before) (push_other (rank form) before (range_for form before) range (is_first (rank form) before) less)))

with_found : (form : Form) (before : List MediaRange) (found : Option MediaRange) (range : MediaRange) → found ≡ Some range
    → best_of form (before ++ range ∷ []) ≡ best_of form (before ++ option_to_list found)
with_found form before found range e = ap (λ o. best_of form (before ++ option_to_list o)) (sym e)

pub takes_found : (form : Form) (before : List MediaRange) (found : Option MediaRange) (range : MediaRange) (so_far : Best) → found ≡ Some range
    → so_far ≡ best_of form before → rank_of so_far.specificity < rank form range → best_by form (Some range) ≡ best_of form (before ++ option_to_list found)
takes_found form before found range so_far f e h = takes form before range so_far e h ∙ with_found form before found range f

pub keeps_found : (form : Form) (before : List MediaRange) (found : Option MediaRange) (range : MediaRange) (so_far : Best) → found ≡ Some range
    → so_far ≡ best_of form before → rank form range ≤ rank_of so_far.specificity → so_far ≡ best_of form (before ++ option_to_list found)
keeps_found form before found range so_far f e h = keeps form before range so_far e h ∙ with_found form before found range f

-- no range before the first element
pub best_none : (form : Form) → best_by form None ≡ best_of form []
unfolding best_of first_greatest
best_none form = refl

same_any : (o : Option MediaRange) (ranges : List MediaRange) (some : Bool) → (is_some o || some) ≡ true → (some ≡ true → ranges_or_any ranges ≡ ranges) → ranges_or_any (cons_option o ranges) ≡ cons_option o ranges
same_any None ranges some e f = f e
same_any (Some range) ranges some e f = refl

-- where an element is a range, the value has ranges
pub has_ranges : (h : List ℕ → Option MediaRange) (elements : List (List ℕ)) → list_any (λ element. is_some (h element)) elements ≡ true
    → ranges_or_any (filter_map h elements) ≡ filter_map h elements
has_ranges h [] e = cc
has_ranges h (element ∷ elements) e =
    same_any (h element) (filter_map h elements) (list_any (λ it. is_some (h it)) elements) e (has_ranges h elements)

neither : (a b : Bool) → (a || b) ≡ false → (a ≡ false) × (b ≡ false)
neither true b e = cc
neither false b e = (refl, e)

no_some : (o : Option MediaRange) (ranges : List MediaRange) → is_some o ≡ false → cons_option o ranges ≡ ranges
no_some None ranges e = refl
no_some (Some range) ranges e = cc

-- where none is, it has none
pub no_ranges : (h : List ℕ → Option MediaRange) (elements : List (List ℕ)) → list_any (λ element. is_some (h element)) elements ≡ false → filter_map h elements ≡ []
no_ranges h [] e = refl
no_ranges h (element ∷ elements) e =
    let w = neither (is_some (h element)) (list_any (λ it. is_some (h it)) elements) e in
    no_some (h element) (filter_map h elements) w.0 ∙ no_ranges h elements w.1

-- `*/*` gives each form the quality 1
pub any_quality : (form : Form) → quality_among form (ranges_or_any []) ≡ 1000
unfolding first_greatest specificity
any_quality form = refl

one_found : (found : Option MediaRange) → cons_option found [] ≡ option_to_list found
one_found None = refl
one_found (Some range) = refl

-- the ranges of elements and one more
pub ranges_push : {A : Type 0} (now : A → List ℕ) (elements : List A) (element : A)
    → filter_map range_of (map now (elements ++ element ∷ [])) ≡ filter_map range_of (map now elements) ++ option_to_list (range_of (now element))
ranges_push now elements element =
    ap (filter_map range_of) (map-append now elements (element ∷ []))
    ∙ filter_map-append range_of (map now elements) (now element ∷ [])
    ∙ ap (λ l. filter_map range_of (map now elements) ++ l) (one_found (range_of (now element)))

by_gives : (form : Form) (ranges : List MediaRange) (o : Option MediaRange) → Gives (rank form) ranges o → MatchOption o (All (λ range. rank form range ≡ 0) ranges) (IsFirstGreatest (rank form) ranges)
by_gives form ranges None g = g
by_gives form ranges (Some range) g = g

pub most_specific : MostSpecific
most_specific form ranges = by_gives form ranges (range_for form ranges) (is_first (rank form) ranges)
