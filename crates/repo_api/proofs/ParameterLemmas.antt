-- Names of parameters, and parameters as texts.
use Rattle.std.proofs.Common.{◌≡◌, ℕ, zero, suc, ◌+◌, ◌<◌, ◌≤◌, ◌==◌, List, [], ◌∷◌, ◌++◌, Bool, true, false, cond, length, take, drop, Option, Some, None, refl, ap, ◌∙◌, subst, encode_utf8_all, slice_index, arith, length-drop, nat_lt, if◌then◌else◌, All, find}
use Rattle.std.specs.Option.{unwrap_or}
use Rattle.std.specs.List.{filter_map, cons_option}
use Rattle.std.specs.Str.{IsUtf8, is_utf8, bytes_eq}
use Rattle.std.specs.Int.{is_in_range}
use Rattle.std.specs.Str.Lossy.{valid_len_up_to, utf8_valid_len, second_byte_min, second_byte_max, error_len_after_two, error_len_after_one, error_len_of_some, utf8_error_len, utf8_invalid_len, after_first_chunk, replacement_bytes, utf8_lossy_within, utf8_lossy}
use Rattle.std.proofs.lemmas.Bool.{cond_both, eqb-true, eqb-false}
use Rattle.std.proofs.lemmas.Option.{same_Some}
use Rattle.std.proofs.lemmas.List.{take_all}
use Rattle.std.proofs.lemmas.List.Elements.{All-map, All-append, All-cons, All-nil, All-head, All-tail}
use Rattle.std.proofs.lemmas.Str.{IsUtf8-nil, IsUtf8-from_is_utf8, IsUtf8-append, utf8_valid_len_le}
use Rattle.form_urlencoded.specs.Form.{raw_pairs}
use Rattle.http_frame.specs.Messages.{SeenRequest}
use Rattle.api_parts.specs.declared.selection.Parameter.{Parameter}
use Rattle.api_parts.specs.declared.selection.Parameter.TheVariants.{Subject, Predicate, Object, Context}
use Rattle.api_parts.specs.Parameters.{parameters, decoded_pair, value_of, values_of}
use Rattle.api_parts.specs.Selections.{name_of}
use Rattle.repo_api.specs.declared.parameters.Named.{Named}
use Rattle.repo_api.specs.declared.parameters.Named.TheVariants.{Action, IsolationLevel, QueryLanguage, Query, Prefix}
use Rattle.repo_api.specs.Names.{word_of, AreTexts}
use Rattle.repo_api.specs.Parameters.{target_parameters, form_parameters, all_parameters}

-- names of ASCII are their own bytes
pub own_word : (named : Named) → encode_utf8_all (word_of named) ≡ word_of named
unfolding lib.Utf8.encode
own_word Action = refl
own_word IsolationLevel = refl
own_word QueryLanguage = refl
own_word Query = refl
own_word Prefix = refl

pub own_name : (parameter : Parameter) → encode_utf8_all (name_of parameter) ≡ name_of parameter
unfolding lib.Utf8.encode
own_name Subject = refl
own_name Predicate = refl
own_name Object = refl
own_name Context = refl

-- what is found is in the list
pub All-found : {X : Type 0} (P : X → Type 0) (test : X → Bool) (xs : List X) (x : X) → All P xs → find test xs ≡ Some x → P x
All-found P test [] x all e = cc
All-found P test (y ∷ ys) x all e =
    elim (test y) as (λ t. cond t (Some y) (find test ys) ≡ Some x → P x)
    [ true ↦ λ h. subst P (same_Some y x h) (All-head P y ys all) | false ↦ λ h. All-found P test ys x (All-tail P y ys all) h ] e

-- the text at the front of bytes
front : (bs : List ℕ) (n : ℕ) → IsUtf8 (take (valid_len_up_to bs n) bs)
front bs zero = IsUtf8-nil
front bs (suc n) =
    cond_both (is_utf8 (take (suc n) bs)) (suc n) (valid_len_up_to bs n) (λ m. IsUtf8 (take m bs)) (λ e. IsUtf8-from_is_utf8 (take (suc n) bs) e) (λ e. front bs n)

valid_front : (bs : List ℕ) → IsUtf8 (take (utf8_valid_len bs) bs)
unfolding utf8_valid_len
valid_front bs = front bs (length bs)

-- an invalid sequence has a byte
IsSome_byte : List ℕ → Option ℕ → Type 0
IsSome_byte bs found = 0 < unwrap_or found (length bs)

two : (bs : List ℕ) → 0 < length bs → IsSome_byte bs (error_len_after_two bs)
unfolding IsSome_byte
two bs h =
    cond_both (nat_lt (length bs) 3) None (if is_in_range 0x80 0xBF (slice_index bs 2) then (if nat_lt (length bs) 4 then None else Some 3) else Some 2)
    (IsSome_byte bs) (λ e. h)
    (λ e. cond_both (is_in_range 0x80 0xBF (slice_index bs 2)) (if nat_lt (length bs) 4 then None else Some 3) (Some 2) (IsSome_byte bs)
    (λ f. cond_both (nat_lt (length bs) 4) None (Some 3) (IsSome_byte bs) (λ g. h) (λ g. omega arith)) (λ f. omega arith))

one : (bs : List ℕ) → 0 < length bs → IsSome_byte bs (error_len_after_one bs)
unfolding IsSome_byte
one bs h =
    let x = slice_index bs 0 in
    cond_both (nat_lt (length bs) 2) None (if is_in_range (second_byte_min x) (second_byte_max x) (slice_index bs 1) then error_len_after_two bs else Some 1)
    (IsSome_byte bs) (λ e. h)
    (λ e. cond_both (is_in_range (second_byte_min x) (second_byte_max x) (slice_index bs 1)) (error_len_after_two bs) (Some 1) (IsSome_byte bs) (λ f. two bs h) (λ f. omega arith))

some_byte : (bs : List ℕ) → 0 < length bs → 0 < utf8_invalid_len bs
unfolding utf8_error_len IsSome_byte
some_byte bs h =
    cond_both (length bs == 0) None (error_len_of_some bs) (IsSome_byte bs) (λ e. h)
    (λ e. cond_both (is_in_range 0xC2 0xF4 (slice_index bs 0)) (error_len_after_one bs) (Some 1) (IsSome_byte bs) (λ f. one bs h) (λ f. omega arith))

replaced : IsUtf8 replacement_bytes
unfolding lib.Utf8.encode
replaced = (0xFFFD ∷ [], (refl, refl))

nothing : (bs : List ℕ) → length bs ≤ 0 → IsUtf8 bs
nothing [] h = IsUtf8-nil
nothing (b ∷ bs) h = absurd (omega arith)

lossy_within : (k : ℕ) (bs : List ℕ) → length bs ≤ k → IsUtf8 (utf8_lossy_within k bs)
lossy_within zero bs h = nothing bs h
lossy_within (suc k) bs h =
    cond_both (utf8_valid_len bs == length bs) bs (take (utf8_valid_len bs) bs ++ (replacement_bytes ++ utf8_lossy_within k (after_first_chunk bs))) IsUtf8
    (λ e. subst IsUtf8 (ap (λ n. take n bs) (eqb-true (utf8_valid_len bs) (length bs) e) ∙ take_all (length bs) bs (omega arith)) (valid_front bs))
    (λ e.
    let n = utf8_valid_len_le bs in
    let other = eqb-false (utf8_valid_len bs) (length bs) e in
    let left = length-drop (utf8_valid_len bs) bs in
    let more : 0 < length (drop (utf8_valid_len bs) bs) = omega arith in
    let byte = some_byte (drop (utf8_valid_len bs) bs) more in
    let rest = length-drop (utf8_valid_len bs + utf8_invalid_len (drop (utf8_valid_len bs) bs)) bs in
    IsUtf8-append _ _ (valid_front bs) (IsUtf8-append _ _ replaced (lossy_within k (after_first_chunk bs) (omega arith))))

-- U+FFFD takes the place of what isn't UTF-8
lossy_text : (bs : List ℕ) → IsUtf8 (utf8_lossy bs)
unfolding utf8_lossy
lossy_text bs = lossy_within (length bs) bs (omega arith)

abbrev IsTextPair : List ℕ × List ℕ → Type 0
IsTextPair pair = IsUtf8 pair.0 × IsUtf8 pair.1

parameters_are_texts : (query : List ℕ) → AreTexts (parameters query)
parameters_are_texts query = All-map IsTextPair decoded_pair (raw_pairs query) (λ k d h. (lossy_text _, lossy_text _))

form_texts : (test : Bool) (body : List ℕ) → AreTexts (if test then parameters body else [])
form_texts true body = parameters_are_texts body
form_texts false body = All-nil IsTextPair

pub are_texts : (r : SeenRequest) → AreTexts (all_parameters r)
are_texts r = All-append IsTextPair (target_parameters r) (form_parameters r) (parameters_are_texts _) (form_texts _ r.body)

-- values of texts are texts
pub values_are_texts : (name : List ℕ) (pairs : List (List ℕ × List ℕ)) → AreTexts pairs → All IsUtf8 (values_of name pairs)
values_are_texts name [] all = All-nil IsUtf8
values_are_texts name (p ∷ ps) all =
    elim (bytes_eq p.0 name) as (λ t. All IsUtf8 (cons_option (cond t (Some p.1) None) (filter_map (value_of name) ps))) [
      | true ↦ All-cons IsUtf8 p.1 (values_of name ps) (All-head IsTextPair p ps all).1 (values_are_texts name ps (All-tail IsTextPair p ps all))
      | false ↦ values_are_texts name ps (All-tail IsTextPair p ps all)
    ]
