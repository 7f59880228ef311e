-- Bodies as texts.
use Rattle.std.proofs.Common.{◌≡◌, ℕ, List, [], ◌∷◌, Bool, true, false, ◌&&◌, not, Ok, Err, if◌then◌else◌, refl, sym, ap, ◌∙◌, encode_utf8_all, Some, None, find, length, ◌≤◌, codes}
use Rattle.std.specs.Str.{chars, is_utf8, IsUtf8}
use Rattle.std.proofs.lemmas.Str.{is_utf8-from_IsUtf8, IsUtf8-from_is_utf8, chars_from_encodes}
use Rattle.rdf_term.specs.Validity.{is_iri_text, is_short}
use Rattle.api_calls.specs.declared.fault.ApiFault.TheVariants as faults
use Rattle.http_frame.specs.Fields.{is_named, values_of}
use Rattle.http_frame.specs.Messages.{SeenRequest}
use Rattle.http_frame.proofs.FieldLemmas.{no_values, one_value}
use Rattle.repo_api.specs.Content.{is_empty, media_type, type_by, type_of, is_query_text, namespace_of}
use Rattle.repo_api.specs.Queries.{query_bodies}

is_false : (test : Bool) → (test ≡ true → ⊥) → test ≡ false
is_false true never = absurd (never refl)
is_false false never = refl

pub not_utf8 : (bs : List ℕ) → (IsUtf8 bs → ⊥) → is_utf8 bs ≡ false
not_utf8 bs never = is_false (is_utf8 bs) (λ e. never (IsUtf8-from_is_utf8 bs e))

bad_by : (u i s : Bool) (text : List ℕ) → u ≡ false → Err faults.Namespace ≡ (if u && i && s then Ok text else Err faults.Namespace)
bad_by true i s text e = cc
bad_by false i s text e = refl

pub no_namespace : (body : List ℕ) → (IsUtf8 body → ⊥) → Err faults.Namespace ≡ namespace_of body
no_namespace body never = bad_by (is_utf8 body) (is_iri_text (chars body)) (is_short (chars body)) (chars body) (not_utf8 body never)

good_by : (u i s : Bool) (text : List ℕ) → u ≡ true → i ≡ true → s ≡ true → Ok text ≡ (if u && i && s then Ok text else Err faults.Namespace)
good_by true true true text e f g = refl
good_by true true false text e f g = cc
good_by true false s text e f g = cc
good_by false i s text e f g = cc

pub namespace_is : (body text : List ℕ) → IsUtf8 body → encode_utf8_all text ≡ body → is_iri_text (chars body) ≡ true → is_short (chars body) ≡ true
    → Ok text ≡ namespace_of body
namespace_is body text u e i s =
    ap Ok (chars_from_encodes text body u e)
    ∙ good_by (is_utf8 body) (is_iri_text (chars body)) (is_short (chars body)) (chars body) (is_utf8-from_IsUtf8 body u) i s

-- a body is a query's where all three tests say so
pub one_body : (q e u : Bool) (body : List ℕ) → q ≡ true → e ≡ false → u ≡ true → body ∷ [] ≡ (if q && not e && u then body ∷ [] else [])
one_body true false true body x y z = refl
one_body true false false body x y z = cc
one_body true true u body x y z = cc
one_body false e u body x y z = cc

pub no_body : (q e u : Bool) (body : List ℕ) → u ≡ false → [] ≡ (if q && not e && u then body ∷ [] else [])
no_body true false true body z = cc
no_body true false false body z = refl
no_body true true u body z = refl
no_body false e u body z = refl

-- the type by the field that is found
pub no_type : (fields seen : List (List ℕ × List ℕ)) → seen ≡ fields → None ≡ find (is_named (codes "content-type")) seen → None ≡ type_of fields
no_type fields seen same found = sym (ap type_by (no_values (is_named (codes "content-type")) seen (sym found))) ∙ ap type_of same

pub type_is : (fields seen : List (List ℕ × List ℕ)) (field : List ℕ × List ℕ) (name value : List ℕ) → seen ≡ fields → Some field ≡ find (is_named (codes "content-type")) seen
    → length (values_of (codes "content-type") seen) ≤ 1 → name ≡ media_type value → value ≡ field.1 → Some name ≡ type_of fields
type_is fields seen field name value same found few told read =
    ap Some (told ∙ ap media_type read) ∙ sym (ap type_by (one_value (is_named (codes "content-type")) seen field (sym found) few)) ∙ ap type_of same

-- a body that is the text of a query
pub body_is : (r : SeenRequest) (q : Bool) (text body : List ℕ) → q ≡ is_query_text (type_of r.head.fields) → q ≡ true → false ≡ is_empty body → body ≡ r.body
    → text ≡ body → IsUtf8 body → text ∷ [] ≡ query_bodies r
body_is r q text body told yes' some same read u =
    ap (λ (t : List ℕ). t ∷ []) (read ∙ same)
    ∙ one_body (is_query_text (type_of r.head.fields)) (is_empty r.body) (is_utf8 r.body) r.body (sym told ∙ yes') (ap is_empty (sym same) ∙ sym some)
    (ap is_utf8 (sym same) ∙ is_utf8-from_IsUtf8 body u)

pub body_is_none : (r : SeenRequest) (body : List ℕ) → body ≡ r.body → (IsUtf8 body → ⊥) → [] ≡ query_bodies r
body_is_none r body same never =
    no_body (is_query_text (type_of r.head.fields)) (is_empty r.body) (is_utf8 r.body) r.body (ap is_utf8 (sym same) ∙ not_utf8 body never)
