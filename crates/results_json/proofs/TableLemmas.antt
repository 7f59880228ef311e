-- What is written of a table.
use Rattle.std.proofs.Common.{◌≡◌, ℕ, List, [], ◌∷◌, ◌++◌, Option, refl, ap, ap₂, ◌∙◌, append_assoc, append-nil, map, codes}
use Rattle.rdf_term.specs.EachOnce.{EachOnce}
use Rattle.rdf_term.specs.declared.term.Term.{Term}
use Rattle.query_model.specs.declared.table.Table.{Table}
use Rattle.json.specs.Token.{Token, key, begin_object, end_object}
use Rattle.json.specs.Print.{print}
use Rattle.serde_json.specs.Data.{Data, array, object, Members, no_members, member}
use Rattle.serde_json.specs.View.{items_of}
use Rattle.results_json.specs.Tables.{text_value, row_value, table_value, table_text}
use Rattle.results_json.specs.Columns.{data_tokens, open_tokens, columns_from, bound}
use Rattle.results_json.proofs.ColumnLemmas.{bound_row}
use Rattle.results_json.proofs.TokenLemmas.{nested, object_written, text_written}

same_rows : (names : List (List ℕ)) (columns : List (List ℕ × ℕ)) (rows : List (List (Option Term))) → EachOnce names → columns ≡ columns_from 0 names
    → map (λ row. object (bound columns row)) rows ≡ map (row_value names) rows
same_rows names columns [] once same = refl
same_rows names columns (row ∷ rows) once same =
    ap₂ (λ (d : Data) (ds : List Data). d ∷ ds) (ap (λ cs. object (bound cs row)) same ∙ ap object (bound_row 0 names row once)) (same_rows names columns rows once same)

two_members : (k : List ℕ) (d : Data) (ms : Members) → open_tokens (member k d no_members) ++ open_tokens ms ≡ open_tokens (member k d ms)
two_members k d ms = ap (λ ts. key k ∷ (ts ++ open_tokens ms)) (append-nil (data_tokens d))

-- the parts of a table give its text
pub table_written : (t : Table) (columns : List (List ℕ × ℕ)) (a b d new : List Token) → EachOnce t.vars → columns ≡ columns_from 0 t.vars
    → a ≡ begin_object ∷ [] → b ≡ a ++ open_tokens (nested (codes "head") (codes "vars") (map text_value t.vars))
    → d ≡ b ++ open_tokens (nested (codes "results") (codes "bindings") (map (λ row. object (bound columns row)) t.rows)) → new ≡ d ++ end_object ∷ []
    → print new ≡ table_text t
table_written t columns a b d new once same p q r s =
    let head : Data = object (member (codes "vars") (array (items_of (map text_value t.vars))) no_members) in
    let results : List Data → Members = nested (codes "results") (codes "bindings") in
    let both : d ≡ a ++ open_tokens (member (codes "head") head (results (map (row_value t.vars) t.rows))) =
    r ∙ ap (λ ts. ts ++ open_tokens (results (map (λ row. object (bound columns row)) t.rows))) q
    ∙ append_assoc a (open_tokens (member (codes "head") head no_members)) (open_tokens (results (map (λ row. object (bound columns row)) t.rows)))
    ∙ ap (λ ts. a ++ ts) (two_members (codes "head") head (results (map (λ row. object (bound columns row)) t.rows))
    ∙ ap (λ ds. open_tokens (member (codes "head") head (results ds))) (same_rows t.vars columns t.rows once same)) in
    text_written (table_value t) new (object_written (member (codes "head") head (results (map (row_value t.vars) t.rows))) [] a d new p both s)
