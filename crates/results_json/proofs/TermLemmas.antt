-- The terms that objects spell.
use Rattle.std.proofs.Common.{◌≡◌, ◌≢◌, ℕ, List, false, Some, None, refl, sym, ap, ap₂, ◌∙◌, codes, encode_utf8_all, true≢false, inl, inr}
use Rattle.std.specs.Str.{bytes_eq}
use Rattle.std.proofs.lemmas.Slice.Eq.{bytes_eq-Decides}
use Rattle.std.proofs.lemmas.Str.{encodes_same}
use Rattle.rdf_term.specs.declared.term.Term.{Term}
use Rattle.rdf_term.specs.declared.term.Term.TheVariants.{Iri, Blank, Plain, Tagged, Typed}
use Rattle.rdf_term.specs.Validity.{xsd_string}
use Rattle.serde_json.specs.Data.{Data, string}
use Rattle.serde_json.specs.Find.{get}
use Rattle.results_json.specs.Tables.{HasString, HasText, HasAtMost, IsLiteral, Spells}

same_string : (d : Data) (key s t : List ℕ) → HasString d key s → HasString d key t → s ≡ t
same_string d key s t p q = let e : Some (string s) ≡ Some (string t) = sym p ∙ q in cc

same_text : (d : Data) (key s t : List ℕ) → HasText d key s → HasText d key t → s ≡ t
same_text d key s t p q = encodes_same s t (same_string d key (encode_utf8_all s) (encode_utf8_all t) p q)

absent_text : (d : Data) (key s : List ℕ) → get key d ≡ None → HasString d key s → ⊥
absent_text d key s p q = let e : None ≡ Some (string s) = sym p ∙ q in cc

different : (s t : List ℕ) → bytes_eq s t ≡ false → s ≡ t → ⊥
different s t f e = true≢false (sym ((bytes_eq-Decides s t).1 e) ∙ f)

-- the type tells terms apart
not_literal : (d : Data) (words : List ℕ) → bytes_eq words (codes "literal") ≡ false → bytes_eq words (codes "typed-literal") ≡ false → HasString d (codes "type") words → IsLiteral d → ⊥
not_literal d words p q h lit = elim lit [
  | inl e ↦ different words (codes "literal") p (same_string d (codes "type") words (codes "literal") h e)
  | inr e ↦ different words (codes "typed-literal") q (same_string d (codes "type") words (codes "typed-literal") h e)
]

uri_bnode : (d : Data) → HasString d (codes "type") (codes "uri") → HasString d (codes "type") (codes "bnode") → ⊥
uri_bnode d p q = different (codes "uri") (codes "bnode") refl (same_string d (codes "type") (codes "uri") (codes "bnode") p q)

no_uri : (d : Data) → HasString d (codes "type") (codes "uri") → IsLiteral d → ⊥
no_uri d = not_literal d (codes "uri") refl refl

no_bnode : (d : Data) → HasString d (codes "type") (codes "bnode") → IsLiteral d → ⊥
no_bnode d = not_literal d (codes "bnode") refl refl

xsd_bytes : encode_utf8_all xsd_string ≡ xsd_string
unfolding lib.Utf8.encode
xsd_bytes = refl

pub from_xsd_bytes : (text : List ℕ) → encode_utf8_all text ≡ xsd_string → text ≡ xsd_string
from_xsd_bytes text e = encodes_same text xsd_string (e ∙ sym xsd_bytes)

plain_typed : (d : Data) (datatype : List ℕ) → HasAtMost d (codes "datatype") xsd_string → HasText d (codes "datatype") datatype → datatype ≢ xsd_string → ⊥
plain_typed d datatype (inl none) h other = absent_text d (codes "datatype") (encode_utf8_all datatype) none h
plain_typed d datatype (inr e) h other = other (from_xsd_bytes datatype (same_string d (codes "datatype") (encode_utf8_all datatype) xsd_string h e))

-- an object spells one term
pub spells_once : (d : Data) (t u : Term) → Spells d t → Spells d u → t ≡ u
spells_once d (Iri a) (Iri b) p q = ap Iri (same_text d (codes "value") a b p.1 q.1)
spells_once d (Iri a) (Blank b) p q = absurd (uri_bnode d p.0 q.0)
spells_once d (Iri a) (Plain b) p q = absurd (no_uri d p.0 q.0)
spells_once d (Iri a) (Tagged b x) p q = absurd (no_uri d p.0 q.0)
spells_once d (Iri a) (Typed b x) p q = absurd (no_uri d p.0 q.0)
spells_once d (Blank a) (Iri b) p q = absurd (uri_bnode d q.0 p.0)
spells_once d (Blank a) (Blank b) p q = ap Blank (same_text d (codes "value") a b p.1 q.1)
spells_once d (Blank a) (Plain b) p q = absurd (no_bnode d p.0 q.0)
spells_once d (Blank a) (Tagged b x) p q = absurd (no_bnode d p.0 q.0)
spells_once d (Blank a) (Typed b x) p q = absurd (no_bnode d p.0 q.0)
spells_once d (Plain a) (Iri b) p q = absurd (no_uri d q.0 p.0)
spells_once d (Plain a) (Blank b) p q = absurd (no_bnode d q.0 p.0)
spells_once d (Plain a) (Plain b) p q = ap Plain (same_text d (codes "value") a b p.1 q.1)
spells_once d (Plain a) (Tagged b x) p q = absurd (absent_text d (codes "xml:lang") (encode_utf8_all x) p.2 q.2)
spells_once d (Plain a) (Typed b x) p q = absurd (plain_typed d x p.3 q.3 q.4)
spells_once d (Tagged a y) (Iri b) p q = absurd (no_uri d q.0 p.0)
spells_once d (Tagged a y) (Blank b) p q = absurd (no_bnode d q.0 p.0)
spells_once d (Tagged a y) (Plain b) p q = absurd (absent_text d (codes "xml:lang") (encode_utf8_all y) q.2 p.2)
spells_once d (Tagged a y) (Tagged b x) p q = ap₂ Tagged (same_text d (codes "value") a b p.1 q.1) (same_text d (codes "xml:lang") y x p.2 q.2)
spells_once d (Tagged a y) (Typed b x) p q = absurd (absent_text d (codes "xml:lang") (encode_utf8_all y) q.2 p.2)
spells_once d (Typed a y) (Iri b) p q = absurd (no_uri d q.0 p.0)
spells_once d (Typed a y) (Blank b) p q = absurd (no_bnode d q.0 p.0)
spells_once d (Typed a y) (Plain b) p q = absurd (plain_typed d y q.3 p.3 p.4)
spells_once d (Typed a y) (Tagged b x) p q = absurd (absent_text d (codes "xml:lang") (encode_utf8_all x) p.2 q.2)
spells_once d (Typed a y) (Typed b x) p q = ap₂ Typed (same_text d (codes "value") a b p.1 q.1) (same_text d (codes "datatype") y x p.3 q.3)
