-- Tables and truth values as JSON (SPARQL 1.1 Query Results JSON Format, sections 3 and 4).
use Rattle.std.specs.Prelude.{◌≡◌, ◌≢◌, ◌⊎◌, ℕ, List, [], ◌∷◌, Bool, true, false, ◌&&◌, Option, Some, None, IsTrue, map, codes, encode_utf8_all, option_and_then, is_some}
use Rattle.std.specs.List.{list_all, list_any}
use Rattle.std.specs.Str.{bytes_eq}
use Rattle.rdf_term.specs.declared.term.Term.{Term}
use Rattle.rdf_term.specs.declared.term.Term.TheVariants.{Iri, Blank, Plain, Tagged, Typed}
use Rattle.rdf_term.specs.EachOnce.{EachOnce}
use Rattle.rdf_term.specs.Validity.{IsValidTerm, xsd_string}
use Rattle.query_model.specs.declared.table.Table.{Table}
use Rattle.serde_json.specs.Data.{Data, boolean, string, array, object, Members, no_members, member, put}
use Rattle.serde_json.specs.Find.{get, as_object}
use Rattle.serde_json.specs.View.{items_of}
use Rattle.serde_json.specs.Written.{compact_text}

-- a text as a JSON string, which is in UTF-8
abbrev pub text_value : List ℕ → Data
text_value text = string (encode_utf8_all text)

-- ---- what is written: each object has its members in the order of their keys' bytes

-- the members that each term has (section 3.2.2)
abbrev pub typed_members : List ℕ → List ℕ → Members → Members
typed_members words text more = member (codes "type") (string words) (member (codes "value") (text_value text) more)

abbrev pub term_members : Term → Members
term_members (Iri iri) = typed_members (codes "uri") iri no_members
term_members (Blank label) = typed_members (codes "bnode") label no_members
term_members (Plain text) = typed_members (codes "literal") text no_members
term_members (Tagged text tag) = typed_members (codes "literal") text (member (codes "xml:lang") (text_value tag) no_members)
term_members (Typed text datatype) = member (codes "datatype") (text_value datatype) (typed_members (codes "literal") text no_members)

-- a term
abbrev pub term_value : Term → Data
term_value term = object (term_members term)

-- the members with a variable's term put among them at its place; an unbound one has none
abbrev pub with_cell : List ℕ → Option Term → Members → Members
with_cell name None members = members
with_cell name (Some term) members = put (encode_utf8_all name) (term_value term) members

-- the members of a row (section 3.2.1)
abbrev pub row_members : List (List ℕ) → List (Option Term) → Members
row_members [] cells = no_members
row_members (name ∷ names) [] = no_members
row_members (name ∷ names) (cell ∷ cells) = with_cell name cell (row_members names cells)

abbrev pub row_value : List (List ℕ) → List (Option Term) → Data
row_value names cells = object (row_members names cells)

-- a table (sections 3.1 and 3.2)
abbrev pub table_value : Table → Data
table_value t =
    object (member (codes "head") (object (member (codes "vars") (array (items_of (map text_value t.vars))) no_members))
    (member (codes "results") (object (member (codes "bindings") (array (items_of (map (row_value t.vars) t.rows))) no_members)) no_members))

-- a truth value (section 4)
abbrev pub truth_value : Bool → Data
truth_value b = object (member (codes "boolean") (boolean b) (member (codes "head") (object no_members) no_members))

-- their texts have no space, and the strings of serde_json
abbrev pub table_text : Table → List ℕ
table_text t = compact_text (table_value t)

abbrev pub truth_text : Bool → List ℕ
truth_text b = compact_text (truth_value b)

-- ---- what is read

-- the datatype of a literal with a language tag (RDF 1.1 Concepts, section 3.3)
abbrev pub lang_string : List ℕ
lang_string = codes "http://www.w3.org/1999/02/22-rdf-syntax-ns#langString"

-- an object with the string s at a key
abbrev pub HasString : Data → List ℕ → List ℕ → Type 0
HasString d key s = get key d ≡ Some (string s)

-- and with the text, which a JSON string has in UTF-8
abbrev pub HasText : Data → List ℕ → List ℕ → Type 0
HasText d key text = HasString d key (encode_utf8_all text)

-- nothing at a key, or no other string than s
abbrev pub HasAtMost : Data → List ℕ → List ℕ → Type 0
HasAtMost d key s = (get key d ≡ None) ⊎ HasString d key s

-- a literal's type; typed-literal is the older word
abbrev pub IsLiteral : Data → Type 0
IsLiteral d = HasString d (codes "type") (codes "literal") ⊎ HasString d (codes "type") (codes "typed-literal")

-- the members spell the term; other members than these don't count
abbrev pub Spells : Data → Term → Type 0
Spells d (Iri iri) = HasString d (codes "type") (codes "uri") × HasText d (codes "value") iri
Spells d (Blank label) = HasString d (codes "type") (codes "bnode") × HasText d (codes "value") label
Spells d (Plain text) =
    IsLiteral d × HasText d (codes "value") text × (get (codes "xml:lang") d ≡ None) × HasAtMost d (codes "datatype") xsd_string
Spells d (Tagged text tag) =
    IsLiteral d × HasText d (codes "value") text × HasText d (codes "xml:lang") tag × HasAtMost d (codes "datatype") lang_string
Spells d (Typed text datatype) =
    IsLiteral d × HasText d (codes "value") text × (get (codes "xml:lang") d ≡ None) × HasText d (codes "datatype") datatype × (datatype ≢ xsd_string)

-- a term, whose texts meet the grammar of terms; one with a part of more than 65,535 bytes is none
abbrev pub IsTermValue : Data → Term → Type 0
IsTermValue d term = Spells d term × IsValidTerm term

-- the key is one of these names, in UTF-8
abbrev pub is_name : List (List ℕ) → List ℕ → Bool
is_name names key = list_any (λ name. bytes_eq key (encode_utf8_all name)) names

-- each member has a key that passes the test, and an object
abbrev pub are_cells : (List ℕ → Bool) → Members → Bool
are_cells test no_members = true
are_cells test (member key d members) = test key && is_some (as_object d) && are_cells test members

abbrev pub if_cells : (List ℕ → Bool) → Option Members → Bool
if_cells test None = false
if_cells test (Some members) = are_cells test members

-- an object from names to objects
abbrev pub is_row : List (List ℕ) → Data → Bool
is_row names d = if_cells (is_name names) (as_object d)

-- the value of a member of a member
abbrev pub get_within : List ℕ → List ℕ → Data → Option Data
get_within outer inner d = option_and_then (get inner) (get outer d)

-- the names of a table's variables, which are distinct
abbrev pub HasNames : Data → List (List ℕ) → Type 0
HasNames v names = (get_within (codes "head") (codes "vars") v ≡ Some (array (items_of (map text_value names)))) × EachOnce names

-- its rows, where any object is taken for a term
abbrev pub HasRows : Data → List (List ℕ) → List Data → Type 0
HasRows v names rows =
    (get_within (codes "results") (codes "bindings") v ≡ Some (array (items_of rows))) × IsTrue (list_all (is_row names) rows)

abbrev pub HasShape : Data → List (List ℕ) → List Data → Type 0
HasShape v names rows = HasNames v names × HasRows v names rows

-- an unbound variable is absent, and another one has its term
abbrev pub IsCell : Option Data → Option Term → Type 0
IsCell None None = Unit {0}
IsCell None (Some term) = ⊥
IsCell (Some d) None = ⊥
IsCell (Some d) (Some term) = IsTermValue d term

-- a row has one place for each variable
abbrev pub IsRowValue : List (List ℕ) → Data → List (Option Term) → Type 0
IsRowValue [] d [] = Unit {0}
IsRowValue [] d (cell ∷ cells) = ⊥
IsRowValue (name ∷ names) d [] = ⊥
IsRowValue (name ∷ names) d (cell ∷ cells) = IsCell (get (encode_utf8_all name) d) cell × IsRowValue names d cells

abbrev pub AreRowValues : List (List ℕ) → List Data → List (List (Option Term)) → Type 0
AreRowValues names [] [] = Unit {0}
AreRowValues names [] (row ∷ rows) = ⊥
AreRowValues names (d ∷ ds) [] = ⊥
AreRowValues names (d ∷ ds) (row ∷ rows) = IsRowValue names d row × AreRowValues names ds rows

-- the value of a table
abbrev pub IsTableValue : Data → Table → Type 0
IsTableValue v t = (rows : List Data) × HasShape v t.vars rows × AreRowValues t.vars rows t.rows

-- the value of a truth value
abbrev pub IsTruthValue : Data → Bool → Type 0
IsTruthValue v b =
    ((members : Members) × (get (codes "head") v ≡ Some (object members))) × (get (codes "boolean") v ≡ Some (boolean b))
