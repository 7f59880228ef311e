-- The grammar of an element and the definition that reads it.
use Rattle.std.proofs.Common.{◌≡◌, refl, ap, sym, ◌∙◌, subst, ℕ, Bool, true, false, not, ◌&&◌, ◌||◌, cond, List, ◌∷◌, ◌++◌, drop, map, Option, Some, None}
use Rattle.std.specs.List.{All, after_first, before_first, join_with_byte, slice_split}
use Rattle.std.specs.Option.{option_map}
use Rattle.std.proofs.lemmas.List.Splits.{join_with_byte-slice_split}
use Rattle.media.specs.MediaRange.{MediaRange}
use Rattle.media.specs.Pieces.{is_semicolon, is_slash, is_token, trimmed}
use Rattle.media.specs.Quality.{quality_by, quality_of, weight_of}
use Rattle.media.specs.Ranges.{is_range_text, is_star, range_by, range_of, range_text, range_with}
use Rattle.media.specs.Grammar.{IsElement, IsPadded, NoSemicolon}
use Rattle.media.specs.Laws.{OneRange}
use Rattle.media.proofs.PieceLaws.{all_padded, all_trimmed, after-append, before-append, both, cut_at, padded_trimmed, split_apart, split_head, split_join, token_slash, token_some, trimmed_padded}
use Rattle.media.proofs.QualityLaws.{is_quality, some_quality}

tokens : (main_type subtype : List ℕ) → is_range_text main_type subtype ≡ true → (is_token main_type ≡ true) × (is_token subtype ≡ true)
unfolding is_range_text
tokens main_type subtype h =
    let w = both (is_token main_type && is_token subtype) (is_star subtype || not (is_star main_type)) h in
    both (is_token main_type) (is_token subtype) w.0

parts_by : (t : Bool) (main_type subtype : List ℕ) (o : Option ℕ) (range : MediaRange) → cond t (option_map (range_with main_type subtype) o) None ≡ Some range
    → (t ≡ true) × (o ≡ Some range.quality) × (main_type ≡ range.main_type) × (subtype ≡ range.subtype)
parts_by true main_type subtype None range e = cc
parts_by true main_type subtype (Some quality) range e =
    let same : range_with main_type subtype quality ≡ range = cc in
    (refl, ap (λ (r : MediaRange). Some r.quality) same, ap (λ (r : MediaRange). r.main_type) same, ap (λ (r : MediaRange). r.subtype) same)
parts_by false main_type subtype o range e = cc

-- the parts of what is read
by_parts : (main_type subtype : List ℕ) (o : Option ℕ) (range : MediaRange) → range_by main_type subtype o ≡ Some range
    → (is_range_text main_type subtype ≡ true) × (o ≡ Some range.quality) × (main_type ≡ range.main_type) × (subtype ≡ range.subtype)
unfolding range_by
by_parts main_type subtype o range e = parts_by (is_range_text main_type subtype) main_type subtype o range e

one_element : (text : List ℕ) (range : MediaRange) → IsElement text range → range_of text ≡ Some range
unfolding range_of range_by quality_of
one_element text range w =
    let m = range.main_type in
    let s = range.subtype in
    let n = range.quality in
    let front = before_first is_semicolon text in
    let split = ap (slice_split is_semicolon) w.whole ∙ split_join w.first w.others w.apart in
    let both_parts = sym (split_head is_semicolon text) ∙ split in
    let same_first : front ≡ w.first = cc in
    let same_others : drop 1 (slice_split is_semicolon text) ≡ w.others = ap (drop 1) split in
    let inside : range_text text ≡ m ++ 47 ∷ s = ap trimmed same_first ∙ padded_trimmed w.first (m ++ 47 ∷ s) w.media_range in
    let of_tokens = tokens m s w.of_form in
    let before = ap (before_first is_slash) inside ∙ before-append is_slash m 47 s (token_slash m of_tokens.0) refl in
    let behind = ap (after_first is_slash) inside ∙ after-append is_slash m 47 s (token_slash m of_tokens.0) refl in
    let quality : quality_of text ≡ Some n =
    ap (λ ps. quality_by (weight_of ps)) (ap (map trimmed) same_others ∙ all_padded w.others w.parameters w.padded) ∙ some_quality w.parameters n w.quality in
    ap (λ l. range_by l (after_first is_slash (range_text text)) (quality_of text)) before
    ∙ ap (λ l. range_by m l (quality_of text)) behind
    ∙ ap (range_by m s) quality
    ∙ ap (λ t. cond t (Some (range_with m s n)) None) w.of_form

element_of : (text : List ℕ) (range : MediaRange) → range_of text ≡ Some range → IsElement text range
unfolding range_of quality_of
element_of text range e =
    let inside = range_text text in
    let front = before_first is_slash inside in
    let rest = after_first is_slash inside in
    let parts = by_parts front rest (quality_of text) range e in
    let first = before_first is_semicolon text in
    let others = drop 1 (slice_split is_semicolon text) in
    let head = split_head is_semicolon text in
    let slash = cut_at 47 inside (token_some rest (tokens front rest parts.0).1) in
    let same : inside ≡ range.main_type ++ 47 ∷ range.subtype = slash ∙ ap (λ l. l ++ 47 ∷ rest) parts.2 ∙ ap (λ l. range.main_type ++ 47 ∷ l) parts.3 in
    record {
      first = first;
      others = others;
      whole = sym (join_with_byte-slice_split 59 text) ∙ ap (join_with_byte 59) head;
      apart = subst (λ (l : List (List ℕ)). All NoSemicolon l) head (split_apart text);
      media_range = subst (λ (l : List ℕ). IsPadded first l) same (trimmed_padded first);
      of_form = ap (λ l. is_range_text l range.subtype) (sym parts.2) ∙ ap (is_range_text front) (sym parts.3) ∙ parts.0;
      parameters = map trimmed others;
      padded = all_trimmed others;
      quality = is_quality (map trimmed others) range.quality parts.1;
    }

pub one_range : OneRange
one_range text range = (one_element text range, element_of text range)
