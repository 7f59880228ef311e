-- The classes of characters of the SPARQL 1.1 grammar (section 19.8), beside those that N-Triples has too and those of names and labels.
use Rattle.std.specs.Prelude.{ℕ, List, Bool, ◌||◌, codes, false, not}
use Rattle.rdf_term.specs.Classes.{is_in, is_one_of, is_digit, is_letter, pn_chars_base, is_iri_char, is_string_char}
use Rattle.rdf_term.specs.Escapes.{is_echar}
use Rattle.query_model.specs.WellFormed.{is_name_char, is_label_start}
use Rattle.query_tokens.specs.declared.kind.Quoted.{Quoted}
use Rattle.query_tokens.specs.declared.kind.Quoted.TheVariants.{Iri, Double, Single}

-- PN_CHARS_BASE
abbrev pub is_base : ℕ → Bool
is_base = is_in pn_chars_base

-- PN_CHARS_U | ':' | [0-9], with which a local part may begin
abbrev pub is_local_start : ℕ → Bool
is_local_start c = is_label_start c || is_one_of (codes ":") c

-- PN_CHARS | ':'
abbrev pub is_local_char : ℕ → Bool
is_local_char c = is_name_char c || is_one_of (codes ":") c

-- PN_CHARS | '.' | ':'
abbrev pub is_local_dotted : ℕ → Bool
is_local_dotted c = is_local_char c || is_one_of (codes ".") c

-- what PN_LOCAL_ESC has behind its backslash
abbrev pub is_local_escape : ℕ → Bool
is_local_escape = is_one_of (codes "_~.-!$&'()*+,;=/?#@%")

-- [a-zA-Z0-9]
abbrev pub is_alphanumeric : ℕ → Bool
is_alphanumeric c = is_letter c || is_digit c

-- the mark of an exponent, and the sign of a number
abbrev pub is_exponent_mark : ℕ → Bool
is_exponent_mark = is_one_of (codes "eE")

abbrev pub is_sign : ℕ → Bool
is_sign = is_one_of (codes "+-")

-- the marks of one character
abbrev pub marks : List ℕ
marks = codes "{}.;,*()[]/|^+-?!=<>&@"

abbrev pub is_mark : ℕ → Bool
is_mark = is_one_of marks

-- the mark that ends an IRI or a string
abbrev pub closing : Quoted → ℕ
closing Iri = 62
closing Double = 34
closing Single = 39

-- what stands as it is in an IRI, [^#x00-#x20<>"{}|^`\], and in a string, [^#x22#x5C#xA#xD] or [^#x27#x5C#xA#xD]
abbrev pub is_raw : Quoted → ℕ → Bool
is_raw Iri = is_iri_char
is_raw Double = is_string_char
is_raw Single = λ c. not (is_one_of (codes "'\\\n\r") c)

-- ECHAR ::= '\' [tbnrf"'\], in a string alone
abbrev pub is_short_escape : Quoted → ℕ → Bool
is_short_escape Iri = λ e. false
is_short_escape Double = is_echar
is_short_escape Single = is_echar
