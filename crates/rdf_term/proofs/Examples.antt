-- Worked cases of the definitions, by computation.
use Rattle.std.proofs.Common.{◌≡◌, refl, [], ◌∷◌, ◌==◌, Option, Some, None, true, false, codes}
use Rattle.rdf_term.specs.declared.term.Term.{Term}
use Rattle.rdf_term.specs.declared.term.Term.TheVariants.{Iri, Blank, Plain, Tagged, Typed}
use Rattle.rdf_term.specs.declared.graph.Graph.TheVariants.{Absent, Named}
use Rattle.rdf_term.specs.Statement.{Statement}
use Rattle.rdf_term.specs.Canonical.{canonical_line}
use Rattle.rdf_term.specs.Sets.{in_order, rows_in_order}
use Rattle.std.specs.List.{slice_split}
use Rattle.rdf_term.specs.Escapes.{is_echar, echar_meaning}
use Rattle.rdf_term.specs.Validity.{is_tag, is_valid, xsd_string}
use Rattle.std.specs.declared.cmp.Ordering.TheVariants.{Less}
use Rattle.rdf_term.specs.Order.{quad_cmp}

abbrev a : Statement
a = record { s = Iri (codes "http://e/s"); p = Iri (codes "http://e/p"); o = Plain (codes "a\"b"); c = Absent }

abbrev b : Statement
b = record { s = Iri (codes "http://e/s"); p = Iri (codes "http://e/p"); o = Tagged (codes "é") (codes "en"); c = Named (Iri (codes "http://e/g")) }

line_a : canonical_line a ≡ codes "<http://e/s> <http://e/p> \"a\\\"b\" .\n"
line_a = refl

line_b : canonical_line b ≡ codes "<http://e/s> <http://e/p> \"é\"@en <http://e/g> .\n"
line_b = refl

a_first : quad_cmp a b ≡ Less
unfolding lib.Utf8.encode
a_first = refl

once_each : in_order (b ∷ a ∷ b ∷ []) ≡ a ∷ b ∷ []
unfolding lib.Utf8.encode
once_each = refl

valid : (is_valid (Blank (codes "a.b")) ≡ true) × (is_valid (Tagged (codes "é") (codes "en-GB")) ≡ true) × (is_valid (Iri (codes "urn:x")) ≡ true)
unfolding lib.Utf8.encode
valid = (refl, refl, refl)

invalid : (is_valid (Blank (codes "a.")) ≡ false) × (is_valid (Tagged (codes "a") (codes "en-")) ≡ false) × (is_valid (Iri (codes "x")) ≡ false)
unfolding lib.Utf8.encode
invalid = (refl, refl, refl)

-- a tag by its parts
tag_by_parts : (slice_split (λ c. c == 45) (codes "en-GB-x1") ≡ codes "en" ∷ codes "GB" ∷ codes "x1" ∷ []) × (is_tag (codes "en-GB-x1") ≡ true)
tag_by_parts = (refl, refl)

no_tags : (is_tag (codes "en--gb") ≡ false) × (is_tag (codes "-en") ≡ false) × (is_tag (codes "e1") ≡ false) × (is_tag [] ≡ false)
no_tags = (refl, refl, refl, refl)

-- a literal typed as xsd:string is none, and one typed by a text without a scheme is none
typed : (is_valid (Typed (codes "1") (codes "http://www.w3.org/2001/XMLSchema#integer")) ≡ true) × (is_valid (Typed (codes "1") xsd_string) ≡ false) × (is_valid (Typed (codes "1") (codes "integer")) ≡ false)
unfolding lib.Utf8.encode
typed = (refl, refl, refl)

-- \n is a line feed, \" is the mark itself, and \x is no escape
escapes : (echar_meaning 110 ≡ 10) × (echar_meaning 34 ≡ 34) × (is_echar 110 ≡ true) × (is_echar 120 ≡ false)
escapes = (refl, refl, refl, refl)

-- a tag in capitals comes before the same in small letters, and a row with nothing in a column before one with a term there
abbrev tagged : Option Term
tagged = Some (Tagged (codes "a") (codes "en"))

abbrev in_capitals : Option Term
in_capitals = Some (Tagged (codes "a") (codes "EN"))

rows_ordered : rows_in_order ((tagged ∷ tagged ∷ []) ∷ (in_capitals ∷ []) ∷ (tagged ∷ None ∷ []) ∷ (tagged ∷ []) ∷ (tagged ∷ []) ∷ (None ∷ tagged ∷ []) ∷ [])
    ≡ (None ∷ tagged ∷ []) ∷ (in_capitals ∷ []) ∷ (tagged ∷ []) ∷ (tagged ∷ []) ∷ (tagged ∷ None ∷ []) ∷ (tagged ∷ tagged ∷ []) ∷ []
unfolding lib.Utf8.encode
rows_ordered = refl
