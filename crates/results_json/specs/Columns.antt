-- What the functions of the writer and the reader give, each in words on lists.
use Rattle.std.specs.Prelude.{ℕ, suc, List, [], ◌∷◌, ◌++◌, Bool, Option, Some, None, map, slice_get, encode_utf8_all}
use Rattle.std.specs.Borrow.{Bor}
use Rattle.std.specs.BTreeMap.{insert_entry}
use Rattle.std.specs.BTreeSet.{BTreeSet, contains_by}
use Rattle.std.specs.Cmp.Lexicographic.{slice_cmp}
use Rattle.std.specs.Ordering.{nat_cmp}
use Rattle.rdf_term.specs.declared.term.Term.{Term}
use Rattle.json.specs.Token.{Token}
use Rattle.json.specs.Tree.{json_tokens}
use Rattle.serde_json.specs.Data.{Data, Members, no_members, member}
use Rattle.serde_json.specs.Written.{outline}
use Rattle.results_json.specs.Tables.{term_value}

-- the tokens of a value
abbrev pub data_tokens : Data → List Token
data_tokens d = json_tokens (outline d)

-- those of members and of items, without the bracket that closes them
abbrev pub open_tokens : Members → List Token
open_tokens no_members = []
open_tokens (member k d ms) = Token.key k ∷ (data_tokens d ++ open_tokens ms)

abbrev pub list_tokens : List Data → List Token
list_tokens [] = []
list_tokens (d ∷ ds) = data_tokens d ++ list_tokens ds

-- the keys' bytes of entries
abbrev pub named : List (Bor (List ℕ) × ℕ) → List (List ℕ × ℕ)
named entries = map (λ e. (e.0.now, e.1)) entries

-- names with their places from i on, in the order of their bytes
abbrev pub columns_from : ℕ → List (List ℕ) → List (List ℕ × ℕ)
columns_from i [] = []
columns_from i (name ∷ names) = insert_entry (slice_cmp nat_cmp) (columns_from (suc i) names) (encode_utf8_all name) i

-- in front of members the one of a column, where it is bound
abbrev pub bound_cell : List ℕ → Option (Option Term) → Members → Members
bound_cell name None members = members
bound_cell name (Some None) members = members
bound_cell name (Some (Some term)) members = member name (term_value term) members

-- the columns that are bound in a row
abbrev pub bound : List (List ℕ × ℕ) → List (Option Term) → Members
bound [] row = no_members
bound (column ∷ columns) row = bound_cell column.0 (slice_get row column.1) (bound columns row)

-- whether a set has a text
abbrev pub has_text : BTreeSet (Bor (List ℕ)) → List ℕ → Bool
has_text set text = contains_by (λ k. slice_cmp nat_cmp text k.now) set
