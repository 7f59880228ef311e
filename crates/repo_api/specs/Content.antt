-- What a request says of its body: its coding and its media type (RFC 9110, sections 8.3 and 8.4), and what the body is read as.
use Rattle.std.specs.Prelude.{◌≡◌, ℕ, Bool, false, ◌==◌, ◌&&◌, ◌||◌, not, List, [], ◌∷◌, Option, Some, None, Result, Ok, Err, if◌then◌else◌, codes, length}
use Rattle.std.specs.List.{before_first, list_any, slice_split}
use Rattle.std.specs.Str.{chars, is_utf8}
use Rattle.httparse.specs.Grammar.{trim_ows}
use Rattle.rdf_term.specs.Statement.{Statement}
use Rattle.rdf_term.specs.Validity.{is_iri_text, is_short}
use Rattle.nquads_line.specs.declared.kind.Kind.{Kind}
use Rattle.nquads_line.specs.declared.kind.Kind.TheVariants.{Triples, Quads}
use Rattle.nquads.specs.declared.fault.DataFault.{DataFault}
use Rattle.nquads.specs.declared.fault.DataFault.TheVariants as lines
use Rattle.nquads.specs.Documents.{IsDocument, FirstBad}
use Rattle.http_frame.specs.Fields.{same_name, is_named, values_of}
use Rattle.api_calls.specs.declared.fault.ApiFault.{ApiFault}
use Rattle.api_calls.specs.declared.fault.ApiFault.TheVariants as faults

abbrev pub is_empty : List ℕ → Bool
is_empty bytes = length bytes == 0

-- an element of a list of codings that names one; `identity` is none, and empty elements don't count (RFC 9110, sections 5.6.1 and 8.4.1)
abbrev pub is_coding : List ℕ → Bool
is_coding element = not (is_empty (trim_ows element)) && not (same_name (trim_ows element) (codes "identity"))

abbrev pub has_coding : List ℕ → Bool
has_coding value = list_any is_coding (slice_split (λ b. b == 44) value)

-- the body is coded
abbrev pub is_coded : List (List ℕ × List ℕ) → Bool
is_coded fields = list_any (λ (field : List ℕ × List ℕ). is_named (codes "content-encoding") field && has_coding field.1) fields

-- a media type without its parameters
abbrev pub media_type : List ℕ → List ℕ
media_type value = trim_ows (before_first (λ b. b == 59) value)

-- the type by the values of Content-Type: several say none
abbrev pub type_by : List (List ℕ) → Option (List ℕ)
type_by [] = None
type_by (value ∷ []) = Some (media_type value)
type_by (value ∷ other ∷ values) = None

abbrev pub type_of : List (List ℕ × List ℕ) → Option (List ℕ)
type_of fields = type_by (values_of (codes "content-type") fields)

-- the type is this one, in any case
abbrev pub is_type : List ℕ → Option (List ℕ) → Bool
is_type wanted None = false
is_type wanted (Some name) = same_name name wanted

abbrev pub is_form : Option (List ℕ) → Bool
is_form name = is_type (codes "application/x-www-form-urlencoded") name

abbrev pub is_query_text : Option (List ℕ) → Bool
is_query_text name = is_type (codes "application/sparql-query") name

abbrev pub is_triples : Option (List ℕ) → Bool
is_triples name = is_type (codes "application/n-triples") name || is_type (codes "text/plain") name

abbrev pub is_quads : Option (List ℕ) → Bool
is_quads name = is_type (codes "application/n-quads") name || is_type (codes "text/x-nquads") name

-- the kind of document that the body is said to be
abbrev pub kind_of : Option (List ℕ) → Result Kind ApiFault
kind_of name = if is_triples name then Ok Triples else if is_quads name then Ok Quads else Err faults.Media

abbrev pub line_fault : DataFault → ApiFault
line_fault (lines.BadLine n) = faults.Line n
line_fault (lines.TooLong n) = faults.LongLine n
line_fault lines.Memory = faults.Memory

-- the body is a document with these quads, or its first bad line is named
abbrev pub IsContent : Kind → List ℕ → Result (List Statement) ApiFault → Type 0
IsContent kind body (Ok quads) = IsDocument kind body quads
IsContent kind body (Err fault) = (bad : DataFault) × FirstBad kind body bad × (fault ≡ line_fault bad)

-- the body is the text of an IRI of at most 65,535 bytes
abbrev pub is_namespace : List ℕ → Bool
is_namespace body = is_utf8 body && is_iri_text (chars body) && is_short (chars body)

abbrev pub namespace_of : List ℕ → Result (List ℕ) ApiFault
namespace_of body = if is_namespace body then Ok (chars body) else Err faults.Namespace
