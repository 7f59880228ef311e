-- Valid terms: their texts meet the grammar of RDF 1.1 N-Triples, section 7, and this product's own rules.
use Rattle.std.specs.Prelude.{ℕ, List, [], ◌∷◌, Bool, true, false, ◌&&◌, ◌||◌, ◌==◌, not, nat_le, length, codes, encode_utf8_all, IsTrue}
use Rattle.std.specs.List.{list_all, slice_split}
use Rattle.std.specs.Str.{all_scalars, bytes_eq}
use Rattle.rdf_term.specs.declared.term.Term.{Term}
use Rattle.rdf_term.specs.declared.term.Term.TheVariants.{Iri, Blank, Plain, Tagged, Typed}
use Rattle.rdf_term.specs.declared.graph.Graph.{Graph}
use Rattle.rdf_term.specs.declared.graph.Graph.TheVariants.{Absent, Named}
use Rattle.rdf_term.specs.Statement.{Statement}
use Rattle.rdf_term.specs.Classes.{is_digit, is_letter, is_one_of, pn_chars_u, pn_chars, is_iri_char}

-- a part of a term has at most 65,535 bytes in UTF-8
abbrev pub is_short : List ℕ → Bool
is_short part = nat_le (length (encode_utf8_all part)) 65535

-- a part of a term is a text of Unicode characters of that length
abbrev pub is_part : List ℕ → Bool
is_part part = all_scalars part && is_short part

-- an IRI has a scheme and a colon: [A-Za-z][A-Za-z0-9+.-]*: (RFC 3986, section 3.1)
abbrev pub has_scheme_rest : List ℕ → Bool
has_scheme_rest [] = false
has_scheme_rest (c ∷ cs) = (c == 58) || ((is_letter c || is_digit c || is_one_of (codes "+.-") c) && has_scheme_rest cs)

abbrev pub has_scheme : List ℕ → Bool
has_scheme [] = false
has_scheme (c ∷ cs) = is_letter c && has_scheme_rest cs

-- an IRI's text has a scheme, and none of the characters that IRIREF leaves out
abbrev pub is_iri_text : List ℕ → Bool
is_iri_text iri = list_all is_iri_char iri && has_scheme iri

-- ( ( PN_CHARS | '.' )* PN_CHARS )?
abbrev pub is_label_rest : List ℕ → Bool
is_label_rest [] = true
is_label_rest (c ∷ []) = pn_chars c
is_label_rest (c ∷ d ∷ cs) = (pn_chars c || is_one_of (codes ".") c) && is_label_rest (d ∷ cs)

-- a blank node's label without `_:`: ( PN_CHARS_U | [0-9] ) ( ( PN_CHARS | '.' )* PN_CHARS )?
abbrev pub is_label : List ℕ → Bool
is_label [] = false
is_label (c ∷ cs) = (pn_chars_u c || is_digit c) && is_label_rest cs

-- one or more characters of a class, and no others
abbrev pub is_run : (ℕ → Bool) → List ℕ → Bool
is_run class [] = false
is_run class (c ∷ cs) = class c && list_all class cs

-- the first part is of letters, and each other one of letters and digits
abbrev pub are_tag_parts : List (List ℕ) → Bool
are_tag_parts [] = false
are_tag_parts (first ∷ more) = is_run is_letter first && list_all (is_run (λ d. is_letter d || is_digit d)) more

-- a language tag without `@`, by its parts between hyphens: [a-zA-Z]+ ( '-' [a-zA-Z0-9]+ )*
abbrev pub is_tag : List ℕ → Bool
is_tag tag = are_tag_parts (slice_split (λ c. c == 45) tag)

-- the same from left to right: a part of characters of this class, and the parts after it; begun says whether it has one
abbrev pub is_tag_from : Bool → (ℕ → Bool) → List ℕ → Bool
is_tag_from begun part [] = begun
is_tag_from begun part (c ∷ cs) =
    (part c && is_tag_from true part cs)
    || (c == 45 && begun && is_tag_from false (λ d. is_letter d || is_digit d) cs)

-- the datatype of a plain literal
abbrev pub xsd_string : List ℕ
xsd_string = codes "http://www.w3.org/2001/XMLSchema#string"

abbrev pub is_valid : Term → Bool
is_valid (Iri iri) = is_part iri && is_iri_text iri
is_valid (Blank label) = is_part label && is_label label
is_valid (Plain text) = is_part text
is_valid (Tagged text tag) = is_part text && is_part tag && is_tag tag
is_valid (Typed text datatype) = is_part text && is_part datatype && is_iri_text datatype && not (bytes_eq datatype xsd_string)

-- a valid term; a literal typed as xsd:string is none, since it is a plain one
abbrev pub IsValidTerm : Term → Type 0
IsValidTerm term = IsTrue (is_valid term)

abbrev pub IsValidGraph : Graph → Type 0
IsValidGraph Absent = Unit {0}
IsValidGraph (Named name) = IsValidTerm name

-- a quad of valid terms
abbrev pub IsValidQuad : Statement → Type 0
IsValidQuad q = IsValidTerm q.s × IsValidTerm q.p × IsValidTerm q.o × IsValidGraph q.c
