-- The slots that tokens stand for are well formed, where the tokens aren't refused.
use Rattle.std.proofs.Common.{◌≡◌, ℕ, Bool, true, false, ◌&&◌, not, if◌then◌else◌, cond, List, [], ◌∷◌, refl, ap, codes, Option, Some, None, Ordering}
use Rattle.std.specs.List.{AllByRecursion}
use Rattle.std.specs.Option.{is_none}
use Rattle.std.specs.Str.{all_scalars, bytes_eq}
use Rattle.std.specs.Map.{lookup}
use Rattle.std.specs.Ordering.{match_ordering}
use Rattle.std.specs.declared.cmp.Ordering.TheVariants.{Less, Equal, Greater}
use Rattle.std.specs.BTreeMap.{insert_entry, is_at}
use Rattle.rdf_term.specs.declared.term.Term.TheVariants as term
use Rattle.rdf_term.specs.TextOrder.{text_cmp}
use Rattle.rdf_term.specs.Validity.{is_part, is_short, is_iri_text, is_tag, xsd_string}
use Rattle.query_print.proofs.Truths.{both, split}
use Rattle.query_tokens.specs.declared.token.Token.{Token}
use Rattle.query_tokens.specs.declared.token.Token.TheVariants as token
use Rattle.query_tokens.specs.declared.token.Number.{Number}
use Rattle.query_tokens.specs.declared.token.Number.TheVariants as number
use Rattle.query_model.specs.declared.query.Slot.{Slot}
use Rattle.query_model.specs.declared.query.Slot.TheVariants as slot
use Rattle.query_grammar.specs.declared.fault.Kind.{Kind as Fault}
use Rattle.query_grammar.specs.declared.fault.Kind.TheVariants as fault
use Rattle.query_grammar.specs.Classes.{is_iri, is_verb, is_graph_name, is_word, is_label}
use Rattle.query_grammar.specs.Values.{Namespaces, declare, namespace, named, number_type, rdf_type, xsd_boolean, iri_slot, slot_of, typed, with_tag, with_type, is_sound_iri, unless, iri_refusal, part_refusal}
use Rattle.query_model.specs.WellFormed.{is_label as is_label_text, IsFixed, IsSlot, IsVarOrIri, IsLabelFree}
use Rattle.query_print.proofs.Known.{IsGood}
use Rattle.query_print.proofs.Scalars.{scalars_append}

-- the namespaces are texts of Unicode characters
abbrev pub AreNamespaces : Namespaces → Type 0
AreNamespaces = AllByRecursion (λ e. all_scalars e.1 ≡ true)

inserted : (p iri : List ℕ) (ns : Namespaces) → all_scalars iri ≡ true → AreNamespaces ns → AreNamespaces (insert_entry text_cmp ns p iri)
inserted p iri [] h k = (h, k)
inserted p iri (e ∷ es) h k = at (text_cmp p e.0) (insert_entry text_cmp es p iri) (inserted p iri es h k.1)
  where
    at : (o : Ordering) (more : Namespaces) → AreNamespaces more → AreNamespaces (match_ordering o ((p, iri) ∷ e ∷ es) ((e.0, iri) ∷ es) (e ∷ more))
    at Less more m = (h, k)
    at Equal more m = (h, k.1)
    at Greater more m = (k.0, m)

pub declared_namespaces : (ns : Namespaces) (p iri : List ℕ) → AreNamespaces ns → all_scalars iri ≡ true → AreNamespaces (declare ns p iri)
unfolding declare
declared_namespaces ns p iri h k = inserted p iri ns k h

abbrev IfScalars : Option (List ℕ) → Type 0
IfScalars None = Unit {0}
IfScalars (Some iri) = all_scalars iri ≡ true

found : (test : List ℕ → Bool) (ns : Namespaces) → AreNamespaces ns → IfScalars (lookup test ns)
found test [] h = tt
found test (e ∷ es) h = at (test e.0) (lookup test es) (found test es h.1)
  where
    at : (b : Bool) (o : Option (List ℕ)) → IfScalars o → IfScalars (cond b (Some e.1) o)
    at true o k = h.0
    at false o k = k

namespace_scalars : (ns : Namespaces) (p : List ℕ) → AreNamespaces ns → IfScalars (namespace ns p)
unfolding namespace
namespace_scalars ns p h = found (is_at (text_cmp p)) ns h

named_scalars : (o : Option (List ℕ)) (l : List ℕ) → IfScalars o → all_scalars l ≡ true → IfScalars (named o l)
named_scalars None l h k = tt
named_scalars (Some iri) l h k = scalars_append iri l h k

-- what isn't refused

pub passed : (b : Bool) (k : Fault) → is_none (unless b k) ≡ true → b ≡ true
passed true k h = refl
passed false k h = cc

pub part_of : (t : List ℕ) → all_scalars t ≡ true → is_short t ≡ true → is_part t ≡ true
part_of t h k = both (all_scalars t) (is_short t) h k

iri_known : (o : Option (List ℕ)) → IfScalars o → is_none (iri_refusal o) ≡ true → IsVarOrIri (iri_slot o)
unfolding iri_refusal
iri_known None h k = cc
iri_known (Some iri) h k =
    let sound = split (is_short iri) (is_iri_text iri) (passed (is_sound_iri iri) fault.Unsupported k) in
    both (is_part iri) (is_iri_text iri) (part_of iri h sound.0) sound.1

-- a variable or an IRI, as a predicate, a graph's name or a datatype

pub iri_fits : (ns : Namespaces) (t : Token) → AreNamespaces ns → is_iri t ≡ true → IsGood t → is_none (part_refusal ns t) ≡ true → IsVarOrIri (slot_of ns t)
unfolding part_refusal slot_of
iri_fits ns (token.Namespace p) a c g r = iri_known (namespace ns p) (namespace_scalars ns p a) r
iri_fits ns (token.Iri iri) a c g r = iri_known (Some iri) g r
iri_fits ns (token.Name p l) a c g r = iri_known (named (namespace ns p) l) (named_scalars (namespace ns p) l (namespace_scalars ns p a) g) r
iri_fits ns _ a c g r = cc

type_known : (is_part rdf_type && is_iri_text rdf_type) ≡ true
unfolding lib.Utf8.encode
type_known = refl

pub verb_fits : (ns : Namespaces) (t : Token) → AreNamespaces ns → is_verb t ≡ true → IsGood t → is_none (part_refusal ns t) ≡ true → IsVarOrIri (slot_of ns t)
unfolding slot_of
verb_fits ns (token.Namespace p) a c g r = iri_fits ns (token.Namespace p) a refl g r
verb_fits ns (token.Iri iri) a c g r = iri_fits ns (token.Iri iri) a refl g r
verb_fits ns (token.Name p l) a c g r = iri_fits ns (token.Name p l) a refl g r
verb_fits ns (token.Var v) a c g r = g
verb_fits ns token.A a c g r = type_known
verb_fits ns _ a c g r = cc

pub name_fits : (ns : Namespaces) (t : Token) → AreNamespaces ns → is_graph_name t ≡ true → IsGood t → is_none (part_refusal ns t) ≡ true → IsVarOrIri (slot_of ns t)
unfolding slot_of
name_fits ns (token.Namespace p) a c g r = iri_fits ns (token.Namespace p) a refl g r
name_fits ns (token.Iri iri) a c g r = iri_fits ns (token.Iri iri) a refl g r
name_fits ns (token.Name p l) a c g r = iri_fits ns (token.Name p l) a refl g r
name_fits ns (token.Var v) a c g r = g
name_fits ns _ a c g r = cc

-- a subject or an object

as_slot : (o : Option (List ℕ)) → IsVarOrIri (iri_slot o) → IsSlot (iri_slot o)
as_slot None h = h
as_slot (Some iri) h = h

typed_part : (n d : List ℕ) → is_part n ≡ true → (is_part d && is_iri_text d && not (bytes_eq d xsd_string)) ≡ true
    → (is_part n && is_part d && is_iri_text d && not (bytes_eq d xsd_string)) ≡ true
typed_part n d h k =
    let a = split (is_part d && is_iri_text d) (not (bytes_eq d xsd_string)) k in
    let b = split (is_part d) (is_iri_text d) a.0 in
    both (is_part n && is_part d && is_iri_text d) _ (both (is_part n && is_part d) (is_iri_text d) (both (is_part n) (is_part d) h b.0) b.1) a.1

number_part : (k : Number) → (is_part (number_type k) && is_iri_text (number_type k) && not (bytes_eq (number_type k) xsd_string)) ≡ true
unfolding number_type lib.Utf8.encode
number_part number.Digits = refl
number_part number.Integer = refl
number_part number.Decimal = refl
number_part number.Double = refl

boolean_part : (is_part xsd_boolean && is_iri_text xsd_boolean && not (bytes_eq xsd_boolean xsd_string)) ≡ true
unfolding lib.Utf8.encode
boolean_part = refl

true_part : is_part (codes "true") ≡ true
unfolding lib.Utf8.encode
true_part = refl

false_part : is_part (codes "false") ≡ true
unfolding lib.Utf8.encode
false_part = refl

label_known : (l : List ℕ) → (all_scalars l && is_label_text l) ≡ true → is_short l ≡ true → (is_part l && is_label_text l) ≡ true
label_known l h k = let w = split (all_scalars l) (is_label_text l) h in both (is_part l) (is_label_text l) (part_of l w.0 k) w.1

pub word_fits : (ns : Namespaces) (t : Token) → AreNamespaces ns → is_word t ≡ true → IsGood t → is_none (part_refusal ns t) ≡ true → IsSlot (slot_of ns t)
unfolding part_refusal slot_of
word_fits ns (token.Namespace p) a c g r = as_slot (namespace ns p) (iri_fits ns (token.Namespace p) a refl g r)
word_fits ns (token.Iri iri) a c g r = iri_fits ns (token.Iri iri) a refl g r
word_fits ns (token.Name p l) a c g r = as_slot (named (namespace ns p) l) (iri_fits ns (token.Name p l) a refl g r)
word_fits ns (token.Var v) a c g r = g
word_fits ns (token.Label l) a c g r = label_known l g (passed (is_short l) fault.Unsupported r)
word_fits ns (token.Number k n) a c g r = typed_part n (number_type k) (part_of n g (passed (is_short n) fault.Unsupported r)) (number_part k)
word_fits ns token.True a c g r = typed_part (codes "true") xsd_boolean true_part boolean_part
word_fits ns token.False a c g r = typed_part (codes "false") xsd_boolean false_part boolean_part
word_fits ns _ a c g r = cc

pub string_fits : (ns : Namespaces) (t : List ℕ) → all_scalars t ≡ true → is_none (part_refusal ns (token.Str t)) ≡ true → IsSlot (slot_of ns (token.Str t))
unfolding part_refusal slot_of
string_fits ns t g r = part_of t g (passed (is_short t) fault.Unsupported r)

free_iri : (o : Option (List ℕ)) → IsLabelFree (iri_slot o)
free_iri None = tt
free_iri (Some iri) = tt

-- only a label stands for a blank node
pub free_of_label : (ns : Namespaces) (t : Token) → is_label t ≡ false → IsLabelFree (slot_of ns t)
unfolding slot_of
free_of_label ns (token.Label l) h = cc
free_of_label ns (token.Namespace p) h = free_iri (namespace ns p)
free_of_label ns (token.Name p l) h = free_iri (named (namespace ns p) l)
free_of_label ns _ h = tt

-- a string with a tag or a datatype

pub tag_fits : (s : Slot) (t : List ℕ) → IsSlot s → (is_part t && is_tag t) ≡ true → IsSlot (with_tag s t)
tag_fits (slot.Var v) t h k = h
tag_fits (slot.Blank l) t h k = h
tag_fits (slot.Fixed (term.Iri iri)) t h k = h
tag_fits (slot.Fixed (term.Blank l)) t h k = h
tag_fits (slot.Fixed (term.Plain text)) t h k =
    let w = split (is_part t) (is_tag t) k in both (is_part text && is_part t) (is_tag t) (both (is_part text) (is_part t) h w.0) w.1
tag_fits (slot.Fixed (term.Tagged text g)) t h k = h
tag_fits (slot.Fixed (term.Typed text d)) t h k = h

pub tag_free : (s : Slot) (t : List ℕ) → IsLabelFree s → IsLabelFree (with_tag s t)
tag_free (slot.Var v) t h = h
tag_free (slot.Blank l) t h = h
tag_free (slot.Fixed (term.Iri iri)) t h = h
tag_free (slot.Fixed (term.Blank l)) t h = h
tag_free (slot.Fixed (term.Plain text)) t h = h
tag_free (slot.Fixed (term.Tagged text g)) t h = h
tag_free (slot.Fixed (term.Typed text d)) t h = h

typed_known : (text d : List ℕ) → is_part text ≡ true → (is_part d && is_iri_text d) ≡ true → IsFixed (typed text d)
unfolding typed
typed_known text d h k = at (bytes_eq d xsd_string) refl
  where
    at : (b : Bool) → bytes_eq d xsd_string ≡ b → IsFixed (if b then term.Plain text else term.Typed text d)
    at true e = h
    at false e = typed_part text d h (both (is_part d && is_iri_text d) _ k (ap not e))

pub type_fits : (s d : Slot) → IsSlot s → IsVarOrIri d → IsSlot (with_type s d)
type_fits (slot.Var v) d h k = h
type_fits (slot.Blank l) d h k = h
type_fits (slot.Fixed (term.Iri iri)) d h k = h
type_fits (slot.Fixed (term.Blank l)) d h k = h
type_fits (slot.Fixed (term.Plain text)) (slot.Var v) h k = h
type_fits (slot.Fixed (term.Plain text)) (slot.Blank l) h k = h
type_fits (slot.Fixed (term.Plain text)) (slot.Fixed (term.Iri d)) h k = typed_known text d h k
type_fits (slot.Fixed (term.Plain text)) (slot.Fixed (term.Blank d)) h k = h
type_fits (slot.Fixed (term.Plain text)) (slot.Fixed (term.Plain d)) h k = h
type_fits (slot.Fixed (term.Plain text)) (slot.Fixed (term.Tagged d g)) h k = h
type_fits (slot.Fixed (term.Plain text)) (slot.Fixed (term.Typed d g)) h k = h
type_fits (slot.Fixed (term.Tagged text g)) d h k = h
type_fits (slot.Fixed (term.Typed text g)) d h k = h

pub type_free : (s d : Slot) → IsLabelFree s → IsLabelFree (with_type s d)
type_free (slot.Var v) d h = h
type_free (slot.Blank l) d h = h
type_free (slot.Fixed (term.Iri iri)) d h = h
type_free (slot.Fixed (term.Blank l)) d h = h
type_free (slot.Fixed (term.Plain text)) (slot.Var v) h = h
type_free (slot.Fixed (term.Plain text)) (slot.Blank l) h = h
type_free (slot.Fixed (term.Plain text)) (slot.Fixed (term.Iri d)) h = h
type_free (slot.Fixed (term.Plain text)) (slot.Fixed (term.Blank d)) h = h
type_free (slot.Fixed (term.Plain text)) (slot.Fixed (term.Plain d)) h = h
type_free (slot.Fixed (term.Plain text)) (slot.Fixed (term.Tagged d g)) h = h
type_free (slot.Fixed (term.Plain text)) (slot.Fixed (term.Typed d g)) h = h
type_free (slot.Fixed (term.Tagged text g)) d h = h
type_free (slot.Fixed (term.Typed text g)) d h = h
