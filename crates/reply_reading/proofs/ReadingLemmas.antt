-- Bytes as texts.
use Rattle.std.proofs.Common.{◌≡◌, ℕ, List, Bool, true, false, Option, Some, None, if◌then◌else◌, refl, sym, ap, ◌∙◌, encode_utf8_all}
use Rattle.std.specs.Str.{chars, is_utf8, IsUtf8}
use Rattle.std.proofs.lemmas.Str.{is_utf8-from_IsUtf8, IsUtf8-from_is_utf8, chars_from_encodes}
use Rattle.api_paths.specs.Targets.{text_of}

-- bytes that are UTF-8 are the text that is encoded so
pub text_is : (bytes text : List ℕ) → IsUtf8 bytes → encode_utf8_all text ≡ bytes → text_of bytes ≡ Some text
text_is bytes text u e =
    ap (λ (test : Bool). if test then Some (chars bytes) else None) (is_utf8-from_IsUtf8 bytes u) ∙ sym (ap Some (chars_from_encodes text bytes u e))

not_true : (test : Bool) (text : Option (List ℕ)) → (test ≡ true → ⊥) → (if test then text else None) ≡ None
not_true true text never = absurd (never refl)
not_true false text never = refl

-- others are none
pub no_text : (bytes : List ℕ) → (IsUtf8 bytes → ⊥) → text_of bytes ≡ None
no_text bytes never = not_true (is_utf8 bytes) (Some (chars bytes)) (λ e. never (IsUtf8-from_is_utf8 bytes e))
