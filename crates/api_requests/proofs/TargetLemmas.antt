-- The target of a request that is written: its path and its parameters are read again.
use Rattle.std.proofs.Common.{◌≡◌, ◌≢◌, ℕ, zero, suc, List, [], ◌∷◌, ◌++◌, Bool, true, false, if◌then◌else◌, map, fold, All, Option, Some, None, refl, sym, ap, ◌∙◌, subst, append-nil, append_assoc, arith, IsAscii, encode_utf8_all, ◌<◌}
use Rattle.std.specs.List.{slice_split, AllByRecursion}
use Rattle.std.specs.Str.{chars, IsUtf8}
use Rattle.std.proofs.lemmas.Bool.{ne_eqb, cond_both}
use Rattle.std.proofs.lemmas.List.Elements.{All-nil, All-cons, All-append}
use Rattle.std.proofs.lemmas.List.Splits.{slice_split_none, slice_split_at}
use Rattle.std.proofs.lemmas.Str.{is_utf8-from_IsUtf8, IsUtf8-nil, IsUtf8-from_ascii, IsAscii-append, encodes-chars, chars-nil}
use Rattle.percent_encoding.specs.AsciiSet.{contains, should_percent_encode}
use Rattle.percent_encoding.specs.Percent.{percent_encode, percent_decode}
use Rattle.percent_encoding.proofs.PercentLemmas.{IsEscapeByte, All-percent_encode, IsAscii-percent_encode, percent_decode-nil, round_trip}
use Rattle.form_urlencoded.specs.Form.{extend_pairs, append_pair, serialize_pair, separator, is_nonempty, byte_serialize}
use Rattle.form_urlencoded.proofs.FormLemmas.{split_once_before_at, split_once_after_at, split_once_before_none, split_once_after_none, IsAscii-byte_serialize}
use Rattle.api_parts.specs.Parameters.{path_of, query_of, parameters}
use Rattle.api_paths.specs.Targets.{is_slash, origin_form, text_of, texts_with, texts_of, segments}
use Rattle.repo_api.specs.declared.resource.Resource.{Resource}
use Rattle.repo_api.specs.Resources.{path_segments, segments_of, Names}
use Rattle.api_requests.specs.declared.target.TheConstants.{ESCAPED}
use Rattle.api_requests.specs.Requests.{segment_text, path_text, query_text}
use Rattle.api_requests.proofs.ByteLemmas.{utf8_bytes}
use Rattle.api_requests.proofs.ParameterLemmas.{IsTextPair, parameters_again}

percent_is_escaped : contains ESCAPED 37 ≡ true
percent_is_escaped = refl

slash_is_escaped : should_percent_encode ESCAPED 47 ≡ true
unfolding should_percent_encode
slash_is_escaped = refl

question_is_escaped : should_percent_encode ESCAPED 63 ≡ true
unfolding should_percent_encode
question_is_escaped = refl

-- what is kept is no byte that is escaped
pub other : (n b : ℕ) → should_percent_encode ESCAPED n ≡ true → should_percent_encode ESCAPED b ≡ false → b ≢ n
other n b escaped kept same = let e : should_percent_encode ESCAPED n ≡ false = subst (λ m. should_percent_encode ESCAPED m ≡ false) same kept in cc

no_slash_in_escape : (b : ℕ) → IsEscapeByte b → is_slash b ≡ false
no_slash_in_escape b h = ne_eqb b 47 (λ e. grind arith)

no_question_in_escape : (b : ℕ) → IsEscapeByte b → b ≢ 63
no_question_in_escape b h e = grind arith

no_slash : (s : List ℕ) → All (λ b. is_slash b ≡ false) (percent_encode ESCAPED s)
no_slash s = All-percent_encode (λ b. is_slash b ≡ false) ESCAPED s (λ b kept. ne_eqb b 47 (other 47 b slash_is_escaped kept)) no_slash_in_escape

no_question : (s : List ℕ) → All (λ b. b ≢ 63) (percent_encode ESCAPED s)
no_question s = All-percent_encode (λ b. b ≢ 63) ESCAPED s (λ b kept. other 63 b question_is_escaped kept) no_question_in_escape

-- no question mark in a path
path_no_question : (ss : List (List ℕ)) → All (λ b. b ≢ 63) (path_text ss)
path_no_question [] = All-nil (λ b. b ≢ 63)
path_no_question (s ∷ ss) =
    All-append (λ b. b ≢ 63) (segment_text s) (path_text ss) (All-cons (λ b. b ≢ 63) 47 (percent_encode ESCAPED s) (λ e. omega arith) (no_question s)) (path_no_question ss)

-- the path and the parameters of a target
pub path_of_target : (ss : List (List ℕ)) (pairs : List (List ℕ × List ℕ)) → path_of (path_text ss ++ query_text pairs) ≡ path_text ss
path_of_target ss [] = ap path_of (append-nil (path_text ss)) ∙ split_once_before_none 63 (path_text ss) (path_no_question ss)
path_of_target ss (p ∷ ps) = split_once_before_at 63 (path_text ss) (extend_pairs [] (p ∷ ps)) (path_no_question ss)

pub query_of_target : (ss : List (List ℕ)) (pairs : List (List ℕ × List ℕ)) → query_of (path_text ss ++ query_text pairs) ≡ extend_pairs [] pairs
query_of_target ss [] = ap query_of (append-nil (path_text ss)) ∙ split_once_after_none 63 (path_text ss) (path_no_question ss)
query_of_target ss (p ∷ ps) = split_once_after_at 63 (path_text ss) (extend_pairs [] (p ∷ ps)) (path_no_question ss)

-- it begins with a slash, and not with a scheme
pub is_origin_form : (s : List ℕ) (ss : List (List ℕ)) (rest : List ℕ) → origin_form (path_text (s ∷ ss) ++ rest) ≡ path_text (s ∷ ss) ++ rest
is_origin_form s ss rest = refl

-- the segments of a path

split_path : (s : List ℕ) (ss : List (List ℕ)) → slice_split is_slash (percent_encode ESCAPED s ++ path_text ss) ≡ map (percent_encode ESCAPED) (s ∷ ss)
split_path s [] = ap (slice_split is_slash) (append-nil (percent_encode ESCAPED s)) ∙ slice_split_none is_slash (percent_encode ESCAPED s) (no_slash s)
split_path s (t ∷ ss) =
    slice_split_at is_slash (percent_encode ESCAPED s) 47 (percent_encode ESCAPED t ++ path_text ss) (no_slash s) refl ∙ ap (λ (rest : List (List ℕ)). percent_encode ESCAPED s ∷ rest) (split_path t ss)

text_is : (s : List ℕ) → IsUtf8 s → text_of s ≡ Some (chars s)
text_is s u = ap (λ (test : Bool). if test then Some (chars s) else None) (is_utf8-from_IsUtf8 s u)

abbrev piece_text : List ℕ → Option (List ℕ)
piece_text piece = text_of (percent_decode piece)

text_again : (s : List ℕ) → IsUtf8 s → piece_text (percent_encode ESCAPED s) ≡ Some (chars s)
text_again s u = ap text_of (round_trip ESCAPED s percent_is_escaped (utf8_bytes s u)) ∙ text_is s u

no_text : piece_text [] ≡ Some []
no_text = ap text_of percent_decode-nil ∙ text_is [] IsUtf8-nil ∙ ap Some chars-nil

texts_behind : (before ss : List (List ℕ)) → AllByRecursion IsUtf8 ss → fold texts_with (Some before) (map piece_text (map (percent_encode ESCAPED) ss)) ≡ Some (before ++ map chars ss)
texts_behind before [] all = ap Some (sym (append-nil before))
texts_behind before (s ∷ ss) all =
    ap (λ (text : Option (List ℕ)). fold texts_with (texts_with (Some before) text) (map piece_text (map (percent_encode ESCAPED) ss))) (text_again s all.0)
    ∙ texts_behind (before ++ chars s ∷ []) ss all.1 ∙ ap Some (append_assoc before (chars s ∷ []) (map chars ss))

segments_of_path : (s : List ℕ) (ss : List (List ℕ)) → AllByRecursion IsUtf8 (s ∷ ss) → segments (path_text (s ∷ ss)) ≡ Some ([] ∷ map chars (s ∷ ss))
unfolding segments
segments_of_path s ss all =
    ap (λ (pieces : List (List ℕ)). texts_of ([] ∷ pieces)) (split_path s ss)
    ∙ ap (λ (text : Option (List ℕ)). fold texts_with (texts_with (Some []) text) (map piece_text (map (percent_encode ESCAPED) (s ∷ ss)))) no_text
    ∙ texts_behind ([] ∷ []) (s ∷ ss) all

-- the target is of ASCII characters

ascii_byte : (d : ℕ) → d < 128 → IsAscii (d ∷ [])
ascii_byte d h zero = h
ascii_byte d h (suc n) = omega arith

nil_ascii : IsAscii []
nil_ascii n = omega arith

separator_ascii : (form : List ℕ) → IsAscii (separator form)
separator_ascii form = cond_both (is_nonempty form) (38 ∷ []) [] IsAscii (λ _. ascii_byte 38 (omega arith)) (λ _. nil_ascii)

pair_ascii : (pair : List ℕ × List ℕ) → IsAscii (serialize_pair pair)
pair_ascii pair =
    IsAscii-append (byte_serialize pair.0 ++ 61 ∷ []) (byte_serialize pair.1)
    (IsAscii-append (byte_serialize pair.0) (61 ∷ []) (IsAscii-byte_serialize pair.0) (ascii_byte 61 (omega arith))) (IsAscii-byte_serialize pair.1)

form_ascii : (form : List ℕ) (pairs : List (List ℕ × List ℕ)) → IsAscii form → IsAscii (extend_pairs form pairs)
form_ascii form [] a = a
form_ascii form (p ∷ ps) a =
    form_ascii (append_pair form p.0 p.1) ps
    (IsAscii-append (form ++ separator form) (serialize_pair (p.0, p.1)) (IsAscii-append form (separator form) a (separator_ascii form)) (pair_ascii (p.0, p.1)))

query_ascii : (pairs : List (List ℕ × List ℕ)) → IsAscii (query_text pairs)
query_ascii [] = nil_ascii
query_ascii (p ∷ ps) = IsAscii-append (63 ∷ []) (extend_pairs [] (p ∷ ps)) (ascii_byte 63 (omega arith)) (form_ascii [] (p ∷ ps) nil_ascii)

path_is_ascii : (ss : List (List ℕ)) → IsAscii (path_text ss)
path_is_ascii [] = nil_ascii
path_is_ascii (s ∷ ss) =
    IsAscii-append (segment_text s) (path_text ss)
    (IsAscii-append (47 ∷ []) (percent_encode ESCAPED s) (ascii_byte 47 (omega arith)) (IsAscii-percent_encode ESCAPED s)) (path_is_ascii ss)

-- the bytes of the target's characters
target_bytes : (ss : List (List ℕ)) (pairs : List (List ℕ × List ℕ)) → encode_utf8_all (chars (path_text ss ++ query_text pairs)) ≡ path_text ss ++ query_text pairs
target_bytes ss pairs =
    encodes-chars (path_text ss ++ query_text pairs) (IsUtf8-from_ascii _ (IsAscii-append (path_text ss) (query_text pairs) (path_is_ascii ss) (query_ascii pairs)))

-- a target names the resource whose segments it was written of
pub target_names : (s : List ℕ) (ss : List (List ℕ)) (pairs : List (List ℕ × List ℕ)) (resource : Resource) → AllByRecursion IsUtf8 (s ∷ ss)
    → [] ∷ map chars (s ∷ ss) ≡ segments_of resource → Names (encode_utf8_all (chars (path_text (s ∷ ss) ++ query_text pairs))) resource
target_names s ss pairs resource all same =
    ap path_segments (target_bytes (s ∷ ss) pairs) ∙ ap (λ (target : List ℕ). segments (path_of target)) (is_origin_form s ss (query_text pairs))
    ∙ ap segments (path_of_target (s ∷ ss) pairs) ∙ segments_of_path s ss all ∙ ap Some same

-- and has the parameters that it was written of
pub target_parameters_are : (s : List ℕ) (ss : List (List ℕ)) (pairs : List (List ℕ × List ℕ)) → AllByRecursion IsTextPair pairs
    → parameters (query_of (origin_form (encode_utf8_all (chars (path_text (s ∷ ss) ++ query_text pairs))))) ≡ pairs
target_parameters_are s ss pairs all =
    ap (λ (target : List ℕ). parameters (query_of (origin_form target))) (target_bytes (s ∷ ss) pairs)
    ∙ ap (λ (target : List ℕ). parameters (query_of target)) (is_origin_form s ss (query_text pairs))
    ∙ ap parameters (query_of_target (s ∷ ss) pairs) ∙ parameters_again pairs all
