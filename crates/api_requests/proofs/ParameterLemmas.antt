-- The parameters of a request that is written are read again.
use Rattle.std.proofs.Common.{◌≡◌, ℕ, List, [], ◌∷◌, map, All, refl, ap, ◌∙◌}
use Rattle.std.specs.List.{AllByRecursion}
use Rattle.std.specs.Str.{IsUtf8}
use Rattle.std.specs.Str.Lossy.{utf8_lossy}
use Rattle.std.proofs.lemmas.Str.{utf8_lossy-IsUtf8}
use Rattle.std.proofs.lemmas.List.Elements.{All-nil, All-cons}
use Rattle.form_urlencoded.specs.Form.{raw_pairs, decode, extend_pairs}
use Rattle.form_urlencoded.proofs.FormLemmas.{IsBytePair, round_trip}
use Rattle.api_parts.specs.Parameters.{decoded_pair, parameters}
use Rattle.api_requests.proofs.ByteLemmas.{utf8_bytes}

-- a name and a value in UTF-8
abbrev pub IsTextPair : List ℕ × List ℕ → Type 0
IsTextPair pair = IsUtf8 pair.0 × IsUtf8 pair.1

abbrev lossy_pair : List ℕ × List ℕ → List ℕ × List ℕ
lossy_pair pair = (utf8_lossy pair.0, utf8_lossy pair.1)

as_parsed : (raw : List (List ℕ × List ℕ)) → map decoded_pair raw ≡ map lossy_pair (map (λ (pair : List ℕ × List ℕ). (decode pair.0, decode pair.1)) raw)
as_parsed [] = refl
as_parsed (p ∷ ps) = ap (λ (rest : List (List ℕ × List ℕ)). decoded_pair p ∷ rest) (as_parsed ps)

kept_texts : (pairs : List (List ℕ × List ℕ)) → AllByRecursion IsTextPair pairs → map lossy_pair pairs ≡ pairs
kept_texts [] all = refl
kept_texts (p ∷ ps) all = λ i. (utf8_lossy-IsUtf8 p.0 all.0.0 i, utf8_lossy-IsUtf8 p.1 all.0.1 i) ∷ kept_texts ps all.1 i

byte_pairs : (pairs : List (List ℕ × List ℕ)) → AllByRecursion IsTextPair pairs → All IsBytePair pairs
byte_pairs [] all = All-nil IsBytePair
byte_pairs (p ∷ ps) all = All-cons IsBytePair p ps (utf8_bytes p.0 all.0.0, utf8_bytes p.1 all.0.1) (byte_pairs ps all.1)

pub parameters_again : (pairs : List (List ℕ × List ℕ)) → AllByRecursion IsTextPair pairs → parameters (extend_pairs [] pairs) ≡ pairs
parameters_again pairs all =
    as_parsed (raw_pairs (extend_pairs [] pairs)) ∙ ap (map lossy_pair) (round_trip pairs (byte_pairs pairs all)) ∙ kept_texts pairs all
