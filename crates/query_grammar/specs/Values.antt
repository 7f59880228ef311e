-- What a token of a query says by itself: the IRI or the slot that it stands for, and why it is refused although the grammar takes it.
use Rattle.std.specs.Prelude.{ℕ, Bool, ◌&&◌, if◌then◌else◌, nat_le, List, [], ◌++◌, Option, Some, None, length, codes, encode_utf8_all}
use Rattle.std.specs.List.{list_all}
use Rattle.std.specs.Char.{is_ascii_digit}
use Rattle.std.specs.Str.{bytes_eq}
use Rattle.std.specs.Str.Parse.{digits_value}
use Rattle.std.specs.Map.{lookup}
use Rattle.std.specs.BTreeMap.{insert_entry, is_at}
use Rattle.rdf_term.specs.TextOrder.{text_cmp}
use Rattle.rdf_term.specs.Validity.{is_short, is_iri_text, xsd_string}
use Rattle.rdf_term.specs.declared.term.Term.{Term}
use Rattle.rdf_term.specs.declared.term.Term.TheVariants as term
use Rattle.query_tokens.specs.declared.token.Token.{Token}
use Rattle.query_tokens.specs.declared.token.Token.TheVariants as token
use Rattle.query_tokens.specs.declared.token.Number.{Number}
use Rattle.query_tokens.specs.declared.token.Number.TheVariants as number
use Rattle.query_model.specs.declared.query.Slot.{Slot}
use Rattle.query_model.specs.declared.query.Slot.TheVariants as slot
use Rattle.query_grammar.specs.declared.fault.Kind.{Kind}
use Rattle.query_grammar.specs.declared.fault.Kind.TheVariants as fault

-- the declared prefixes with the namespaces that they stand for, in the order of texts
abbrev pub Namespaces : Type 0
Namespaces = List (List ℕ × List ℕ)

-- a later declaration of a prefix takes the place of an earlier one
unfoldable pub declare : Namespaces → List ℕ → List ℕ → Namespaces
declare ns prefix iri = insert_entry text_cmp ns prefix iri

unfoldable pub namespace : Namespaces → List ℕ → Option (List ℕ)
namespace ns prefix = lookup (is_at (text_cmp prefix)) ns

-- a prefixed name stands for its namespace followed by its local part (SPARQL 1.1, section 4.1.1), and for nothing where the prefix wasn't declared
abbrev pub named : Option (List ℕ) → List ℕ → Option (List ℕ)
named None local = None
named (Some iri) local = Some (iri ++ local)

-- the IRI that the keyword `a` stands for (SPARQL 1.1, section 4.2.4)
abbrev pub rdf_type : List ℕ
rdf_type = codes "http://www.w3.org/1999/02/22-rdf-syntax-ns#type"

-- the datatypes of numbers by the rules INTEGER, DECIMAL and DOUBLE, and that of the booleans (SPARQL 1.1, section 4.1.2)
unfoldable pub number_type : Number → List ℕ
number_type number.Digits = codes "http://www.w3.org/2001/XMLSchema#integer"
number_type number.Integer = codes "http://www.w3.org/2001/XMLSchema#integer"
number_type number.Decimal = codes "http://www.w3.org/2001/XMLSchema#decimal"
number_type number.Double = codes "http://www.w3.org/2001/XMLSchema#double"

abbrev pub xsd_boolean : List ℕ
xsd_boolean = codes "http://www.w3.org/2001/XMLSchema#boolean"

abbrev pub iri_slot : Option (List ℕ) → Slot
iri_slot None = slot.Fixed (term.Iri [])
iri_slot (Some iri) = slot.Fixed (term.Iri iri)

-- the slot of a token by itself; a token that is none counts as one without text
unfoldable pub slot_of : Namespaces → Token → Slot
slot_of ns token.A = slot.Fixed (term.Iri rdf_type)
slot_of ns token.True = slot.Fixed (term.Typed (codes "true") xsd_boolean)
slot_of ns token.False = slot.Fixed (term.Typed (codes "false") xsd_boolean)
slot_of ns (token.Var v) = slot.Var v
slot_of ns (token.Label l) = slot.Blank l
slot_of ns (token.Str s) = slot.Fixed (term.Plain s)
slot_of ns (token.Number k n) = slot.Fixed (term.Typed n (number_type k))
slot_of ns (token.Iri iri) = slot.Fixed (term.Iri iri)
slot_of ns (token.Namespace p) = iri_slot (namespace ns p)
slot_of ns (token.Name p local) = iri_slot (named (namespace ns p) local)
slot_of ns _ = iri_slot None

-- a literal typed as xsd:string is a plain one (RDF 1.1 Concepts, section 3.3)
unfoldable pub typed : List ℕ → List ℕ → Term
typed text datatype = if bytes_eq datatype xsd_string then term.Plain text else term.Typed text datatype

-- a string with a language tag, or with a datatype
abbrev pub with_tag : Slot → List ℕ → Slot
with_tag (slot.Fixed (term.Plain text)) tag = slot.Fixed (term.Tagged text tag)
with_tag s tag = s

abbrev pub with_type : Slot → Slot → Slot
with_type (slot.Fixed (term.Plain text)) (slot.Fixed (term.Iri datatype)) = slot.Fixed (typed text datatype)
with_type s datatype = s

-- An IRI has at most 65,535 bytes in UTF-8, no character that IRIREF leaves out, and a scheme.
abbrev pub is_sound_iri : List ℕ → Bool
is_sound_iri iri = is_short iri && is_iri_text iri

abbrev pub unless : Bool → Kind → Option Kind
unless sound kind = if sound then None else Some kind

unfoldable pub iri_refusal : Option (List ℕ) → Option Kind
iri_refusal None = Some fault.UnknownPrefix
iri_refusal (Some iri) = unless (is_sound_iri iri) fault.Unsupported

-- why a token is refused wherever it is taken: an IRI that isn't sound, another part of a term over 65,535 bytes, a prefix that wasn't declared, or
-- three quotes in the place of a string
unfoldable pub part_refusal : Namespaces → Token → Option Kind
part_refusal ns (token.Iri iri) = iri_refusal (Some iri)
part_refusal ns (token.Namespace p) = iri_refusal (namespace ns p)
part_refusal ns (token.Name p local) = iri_refusal (named (namespace ns p) local)
part_refusal ns (token.Label l) = unless (is_short l) fault.Unsupported
part_refusal ns (token.Str s) = unless (is_short s) fault.Unsupported
part_refusal ns (token.Tag t) = unless (is_short t) fault.Unsupported
part_refusal ns (token.Number k n) = unless (is_short n) fault.Unsupported
part_refusal ns token.Quotes = Some fault.Unsupported
part_refusal ns _ = None

-- LIMIT and OFFSET take at most 18 digits
abbrev pub is_count : List ℕ → Bool
is_count digits = list_all is_ascii_digit digits && (nat_le 1 (length digits) && nat_le (length digits) 18)

-- the number that they write
unfoldable pub count_of : List ℕ → Option ℕ
count_of digits = if is_count digits then Some (digits_value 10 digits) else None

-- the text that a token holds
unfoldable pub text_of : Token → List ℕ
text_of (token.Namespace p) = p
text_of (token.Iri iri) = iri
text_of (token.Var v) = v
text_of (token.Str s) = s
text_of (token.Tag t) = t
text_of (token.Number k n) = n
text_of _ = []

unfoldable pub count_in : Token → Option ℕ
count_in t = count_of (encode_utf8_all (text_of t))
