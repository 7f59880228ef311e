-- A table that passes the test is read again from what is written of it.
use Rattle.std.proofs.Common.{◌≡◌, ℕ, List, [], ◌∷◌, true, ◌==◌, Option, Some, None, length, refl}
use Rattle.std.specs.List.{list_all}
use Rattle.std.specs.Option.{IfSome}
use Rattle.std.specs.Str.{all_scalars}
use Rattle.std.proofs.lemmas.Bool.{and_parts, and_from, eqb-true}
use Rattle.std.proofs.lemmas.List.Elements.{All-weaker}
use Rattle.std.proofs.lemmas.List.Sums.{AllPass-from_list_all}
use Rattle.rdf_term.specs.declared.term.Term.{Term}
use Rattle.rdf_term.specs.EachOnce.{EachOnce}
use Rattle.rdf_term.specs.Validity.{IsValidTerm, is_part, is_short}
use Rattle.query_model.specs.declared.table.Table.{Table}
use Rattle.results_json.specs.Laws.{IsRightRow, IsRightTable}
use Rattle.results_json.specs.Written.{is_right_cell, is_right_row}

right_cell : (cell : Option Term) → is_right_cell cell ≡ true → IfSome cell IsValidTerm
right_cell None e = tt
right_cell (Some term) e = e

right_row : (names : List (List ℕ)) (row : List (Option Term)) → is_right_row (length names) row ≡ true → IsRightRow names row
right_row names row e =
    let parts = and_parts (length row == length names) (list_all is_right_cell row) e in
    (eqb-true (length row) (length names) parts.0, All-weaker (λ cell. is_right_cell cell ≡ true) (λ cell. IfSome cell IsValidTerm) right_cell row (AllPass-from_list_all is_right_cell row parts.1))

scalars : (names : List (List ℕ)) → list_all is_part names ≡ true → list_all all_scalars names ≡ true
scalars [] e = refl
scalars (name ∷ names) e =
    let parts = and_parts (is_part name) (list_all is_part names) e in
    and_from (all_scalars name) (list_all all_scalars names) (and_parts (all_scalars name) (is_short name) parts.0).0 (scalars names parts.1)

pub right_table : (t : Table) → EachOnce t.vars → list_all is_part t.vars ≡ true → list_all (is_right_row (length t.vars)) t.rows ≡ true → IsRightTable t
right_table t once names rows = (
  once,
  scalars t.vars names,
  All-weaker (λ row. is_right_row (length t.vars) row ≡ true) (IsRightRow t.vars) (right_row t.vars) t.rows (AllPass-from_list_all (is_right_row (length t.vars)) t.rows rows),
)
