-- Worked cases of the definitions, by computation.
use Rattle.std.proofs.Common.{◌≡◌, [], ◌∷◌, Some, None, true, false, codes, refl, inl, inr}
use Rattle.rdf_term.specs.declared.term.Term.TheVariants.{Iri, Plain, Tagged}
use Rattle.query_model.specs.declared.table.Table.{Table}
use Rattle.json.specs.Print.{escape_byte}
use Rattle.serde_json.specs.Data.{Data, string, object, no_members, member}
use Rattle.results_json.specs.Tables.{term_value, table_text, truth_text, Spells, is_row, lang_string}

-- two variables, and a row where one of them is unbound
abbrev table : Table
table = record {
  vars = codes "b" ∷ codes "a" ∷ [];
  rows = (Some (Iri (codes "u:v")) ∷ Some (Tagged (codes "\"") (codes "en")) ∷ []) ∷ (Some (Plain []) ∷ None ∷ []) ∷ [];
}

text_of_table : table_text table ≡ codes
    "{\"head\":{\"vars\":[\"b\",\"a\"]},\"results\":{\"bindings\":[{\"a\":{\"type\":\"literal\",\"value\":\"\\\"\",\"xml:lang\":\"en\"},\"b\":{\"type\":\"uri\",\"value\":\"u:v\"}},{\"b\":{\"type\":\"literal\",\"value\":\"\"}}]}}"
unfolding lib.Utf8.encode escape_byte
text_of_table = refl

text_of_truth : truth_text true ≡ codes "{\"boolean\":true,\"head\":{}}"
unfolding escape_byte
text_of_truth = refl

-- a tag with its datatype spells a tagged literal, and with another one it spells none
abbrev literal : Data → Data
literal datatype =
    object (member (codes "datatype") datatype (member (codes "type") (string (codes "literal"))
    (member (codes "value") (string (codes "a")) (member (codes "xml:lang") (string (codes "en")) no_members))))

with_datatype : Spells (literal (string lang_string)) (Tagged (codes "a") (codes "en"))
unfolding lib.Utf8.encode
with_datatype = (inl refl, refl, refl, inr refl)

-- a key that is no variable's name
other_key : is_row (codes "s" ∷ []) (object (member (codes "o") (term_value (Plain [])) no_members)) ≡ false
unfolding lib.Utf8.encode
other_key = refl
