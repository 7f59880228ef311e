-- The grammar of one term: RDF 1.1 N-Triples, section 7, and this product's own rules beside it.
use Rattle.std.specs.Prelude.{◌≡◌, ◌≢◌, ℕ, ◌⊎◌, List, ◌++◌, Bool, not, IsTrue, codes}
use Rattle.std.specs.List.{list_all}
use Rattle.rdf_term.specs.declared.term.Term.{Term}
use Rattle.rdf_term.specs.declared.term.Term.TheVariants.{Iri, Blank, Plain, Tagged, Typed}
use Rattle.rdf_term.specs.Classes.{is_one_of}
use Rattle.rdf_term.specs.Validity.{has_scheme, is_label, is_tag, xsd_string}
use Rattle.nquads_line.specs.declared.quoted.Quoted.TheVariants as quoted
use Rattle.nquads_line.specs.Written.{IsWritten}

-- space or tab
abbrev pub is_space : ℕ → Bool
is_space = is_one_of (codes " \t")

-- a character of a comment, which ends where its line does
abbrev pub is_comment_char : ℕ → Bool
is_comment_char c = not (is_one_of (codes "\r\n") c)

-- ws*
abbrev pub is_blank : List ℕ → Bool
is_blank = list_all is_space

-- IRIREF ::= '<' ( [^#x00-#x20<>"{}|^`\] | UCHAR )* '>', and the IRI has a scheme
pub record IsIriRef (text iri : List ℕ) : Type 0 where
  pub inner : List ℕ
  pub opened : text ≡ codes "<" ++ inner
  pub written : IsWritten quoted.Iri inner iri
  pub scheme : IsTrue (has_scheme iri)

-- STRING ::= '"' ( [^#x22#x5C#xA#xD] | ECHAR | UCHAR )* '"'
pub record IsString (text cs : List ℕ) : Type 0 where
  pub inner : List ℕ
  pub opened : text ≡ codes "\"" ++ inner
  pub written : IsWritten quoted.Literal inner cs

-- STRING ws* '^^' ws* IRIREF
pub record IsTypedText (text cs datatype : List ℕ) : Type 0 where
  pub string : List ℕ
  pub before : List ℕ
  pub after : List ℕ
  pub name : List ℕ
  pub written : text ≡ string ++ (before ++ (codes "^^" ++ (after ++ name)))
  pub is_string : IsString string cs
  pub before_blank : IsTrue (is_blank before)
  pub after_blank : IsTrue (is_blank after)
  pub is_name : IsIriRef name datatype

-- STRING ws* LANGTAG, LANGTAG ::= '@' [a-zA-Z]+ ( '-' [a-zA-Z0-9]+ )*
pub record IsTaggedText (text cs tag : List ℕ) : Type 0 where
  pub string : List ℕ
  pub before : List ℕ
  pub written : text ≡ string ++ (before ++ (codes "@" ++ tag))
  pub is_string : IsString string cs
  pub before_blank : IsTrue (is_blank before)
  pub is_tag_text : IsTrue (is_tag tag)

-- the text is a term of the grammar and stands for this one; a literal typed as xsd:string is a plain one
abbrev pub IsTermText : List ℕ → Term → Type 0
IsTermText text (Iri iri) = IsIriRef text iri
IsTermText text (Blank label) = IsTrue (is_label label) × (text ≡ codes "_:" ++ label)
IsTermText text (Plain cs) = IsString text cs ⊎ IsTypedText text cs xsd_string
IsTermText text (Tagged cs tag) = IsTaggedText text cs tag
IsTermText text (Typed cs datatype) = IsTypedText text cs datatype × (datatype ≢ xsd_string)
