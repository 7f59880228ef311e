-- Texts of bytes, and what a text begins with.
use Rattle.std.proofs.Common.{◌≡◌, ℕ, List, [], ◌∷◌, Bool, true, false, Option, Some, None, if◌then◌else◌, refl, sym, ap, ◌∙◌, encode_utf8_all}
use Rattle.std.specs.Prelude.{slice_get}
use Rattle.std.specs.Str.{chars, is_utf8, IsUtf8}
use Rattle.std.proofs.lemmas.Option.{same_Some}
use Rattle.std.proofs.lemmas.Str.{is_utf8-from_IsUtf8, IsUtf8-from_is_utf8, chars_from_encodes}
use Rattle.rdf_term.specs.Classes.{is_in, pn_chars_base}
use Rattle.api_paths.specs.Targets.{text_of}
use Rattle.api_paths.specs.Prefixes.{begins_with_base}

-- bytes that are UTF-8 are the text that is encoded so
pub text_is : (bs it : List ℕ) → IsUtf8 bs → encode_utf8_all it ≡ bs → Some it ≡ text_of bs
text_is bs it u e = ap Some (chars_from_encodes it bs u e) ∙ ap (λ (test : Bool). if test then Some (chars bs) else None) (sym (is_utf8-from_IsUtf8 bs u))

not_true : (test : Bool) (text : Option (List ℕ)) → (test ≡ true → ⊥) → None ≡ (if test then text else None)
not_true true text never = absurd (never refl)
not_true false text never = refl

-- others are none
pub no_text : (bs : List ℕ) → (IsUtf8 bs → ⊥) → None ≡ text_of bs
no_text bs never = not_true (is_utf8 bs) (Some (chars bs)) (λ e. never (IsUtf8-from_is_utf8 bs e))

-- the first character decides
pub base_by_first : (cs : List ℕ) (c : ℕ) → Some c ≡ slice_get cs 0 → begins_with_base cs ≡ is_in pn_chars_base c
base_by_first [] c e = cc
base_by_first (d ∷ cs) c e = ap (is_in pn_chars_base) (sym (same_Some c d e))
