-- Texts of heads by their bytes.
use Rattle.std.proofs.Common.{◌≡◌, ℕ, List, Result, Ok, Err, refl, sym, ◌∙◌, encode_utf8_all, IfOk}
use Rattle.std.specs.Str.{chars, IsUtf8}
use Rattle.std.proofs.lemmas.Str.{encodes_same, chars_from_encodes}
use Rattle.api_requests.specs.declared.sending.Verb.{Verb}
use Rattle.api_requests.specs.declared.sending.Verb.TheVariants.{Get, Post, Put, Delete}
use Rattle.api_requests.specs.Requests.{verb_text}

pub own_bytes : (verb : Verb) → encode_utf8_all (verb_text verb) ≡ verb_text verb
unfolding lib.Utf8.encode
own_bytes Get = refl
own_bytes Post = refl
own_bytes Put = refl
own_bytes Delete = refl

pub named : {E : Type 0} (verb : Verb) (r : Result (List ℕ) E) → IfOk r (λ it. encode_utf8_all it ≡ verb_text verb) → IfOk r (λ it. it ≡ verb_text verb)
named verb (Ok it) e = encodes_same it (verb_text verb) (e ∙ sym (own_bytes verb))
named verb (Err fault) e = tt

-- the characters of a text in UTF-8
pub read_as : {E : Type 0} (r : Result (List ℕ) E) (seen bs : List ℕ) → seen ≡ bs → IsUtf8 bs → IfOk r (λ it. encode_utf8_all it ≡ seen) → IfOk r (λ it. it ≡ chars bs)
read_as (Ok it) seen bs e u x = chars_from_encodes it bs u (x ∙ e)
read_as (Err fault) seen bs e u x = tt
