use Rattle.std.proofs.Common.{◌≡◌, ℕ, List, true, Some, Ok, Err, sym, ap, subst, ◌∙◌, map, codes}
use Rattle.std.specs.List.{list_all}
use Rattle.std.specs.Option.{MatchOption}
use Rattle.std.specs.Prelude.{Result, IfErr}
use Rattle.std.specs.Result.{IsErrAnd}
use Rattle.rdf_term.specs.EachOnce.{EachOnce}
use Rattle.query_model.specs.declared.table.Table.{Table}
use Rattle.serde_json.specs.Data.{Data, array}
use Rattle.serde_json.specs.View.{view, items_of}
use Rattle.results_json.specs.declared.fault.ResultFault.{ResultFault}
use Rattle.results_json.specs.declared.fault.ResultFault.TheVariants.{NotJson, BadShape, BadTerm, Memory}
use Rattle.results_json.specs.Tables.{text_value, is_name, is_row, get_within, HasShape, AreRowValues}
use Rattle.results_json.specs.Reading.{IsNumbered}
use Rattle.results_json.specs.Columns.{has_text}
use Rattle.results_json.specs.Rows.{IsRowsFault, IsValueFault, IsValueReading}
use Rattle.results_json.proofs.ShapeLemmas.{list_at, no_names, no_rows}
use Rattle.results_json.proofs.RowLemmas.{same_are_rows}
use Rattle.results_json.proofs.table.table_in.Goals as goal

pub returns-in_default-2-clause-reading : goal.returns-in_default-2-clause-reading
returns-in_default-2-clause-reading c =
    let v = view c.args.value.now in
    let values = map view c.as_slice.result.now in
    let found : get_within (codes "head") (codes "vars") v ≡ Some (array (items_of values)) =
    list_at (codes "head") (codes "vars") v c.list_within.result c.in-Some.vars c.list_within.ensures c.in-Some.is ∙ ap (λ vs. Some (array (items_of (map view vs)))) (sym c.as_slice.ensures.value) in
    no_names v values found
    (subst (λ o. MatchOption o ((names : List (List ℕ)) → values ≡ map text_value names → EachOnce names → ⊥) (λ x. (values ≡ map text_value x.0) × ((q : List ℕ) → has_text x.1 q ≡ is_name x.0 q)))
    c.in_default-2.is c.in_ok-vars.ensures)

pub returns-then-not-are_rows-clause-reading : goal.returns-then-not-are_rows-clause-reading
returns-then-not-are_rows-clause-reading c =
    let v = view c.args.value.now in
    let values = map view c.as_slice.result.now in
    let rows = map view c.as_slice-2.result.now in
    let names = c.in-Some-2.vars in
    let named : (values ≡ map text_value names) × ((q : List ℕ) → has_text c.in-Some-2.names q ≡ is_name names q) =
    subst (λ o. MatchOption o ((names : List (List ℕ)) → values ≡ map text_value names → EachOnce names → ⊥) (λ x. (values ≡ map text_value x.0) × ((q : List ℕ) → has_text x.1 q ≡ is_name x.0 q)))
    c.in-Some-2.is c.in_ok-vars.ensures in
    let found : get_within (codes "head") (codes "vars") v ≡ Some (array (items_of (map text_value names))) =
    list_at (codes "head") (codes "vars") v c.list_within.result c.in-Some.vars c.list_within.ensures c.in-Some.is
    ∙ ap (λ vs. Some (array (items_of (map view vs)))) (sym c.as_slice.ensures.value) ∙ ap (λ ds. Some (array (items_of ds))) named.0 in
    let listed : get_within (codes "results") (codes "bindings") v ≡ Some (array (items_of rows)) =
    list_at (codes "results") (codes "bindings") v c.list_within-2.result c.in-Some-list_within.bindings c.list_within-2.ensures c.in-Some-list_within.is
    ∙ ap (λ vs. Some (array (items_of (map view vs)))) (sym c.as_slice-2.ensures.value) in
    no_rows v names rows (found, subst EachOnce c.vars.view_is c.vars.invariant) listed
    (sym (same_are_rows (has_text c.in-Some-2.names) names rows named.1) ∙ sym c.are_rows.ensures ∙ c.if-not-are_rows.true)

pub rows_of-requires : goal.rows_of-requires
rows_of-requires c =
    let values = map view c.as_slice.result.now in
    let names = c.in-Some-2.vars in
    let named : (values ≡ map text_value names) × ((q : List ℕ) → has_text c.in-Some-2.names q ≡ is_name names q) =
    subst (λ o. MatchOption o ((names : List (List ℕ)) → values ≡ map text_value names → EachOnce names → ⊥) (λ x. (values ≡ map text_value x.0) × ((q : List ℕ) → has_text x.1 q ≡ is_name x.0 q)))
    c.in-Some-2.is c.in_ok-vars.ensures in
    let here : map view c.as_slice-4.result.now ≡ map view c.as_slice-2.result.now = ap (map view) (c.as_slice-4.ensures.value ∙ sym c.as_slice-2.ensures.value) in
    ap (λ ns. list_all (is_row ns) (map view c.as_slice-4.result.now)) c.as_slice-3.ensures.value ∙ ap (list_all (is_row names)) here
    ∙ sym (same_are_rows (has_text c.in-Some-2.names) names (map view c.as_slice-2.result.now) named.1) ∙ sym c.are_rows.ensures ∙ c.if-not-are_rows.false

passed_on : (v : Data) (r : Result Table ResultFault) (e : ResultFault) → IsErrAnd r (λ f. f ≡ e) → IsValueFault v e → IsValueReading v r
passed_on v (Ok t) e is bad = absurd is
passed_on v (Err f) e is bad = subst (IsValueFault v) (sym is) bad

of_rows : (v : Data) (names : List (List ℕ)) (rows : List Data) (e : ResultFault) → HasShape v names rows → IsRowsFault rows e → IsValueFault v e
of_rows v names rows NotJson shape bad = bad
of_rows v names rows BadShape shape bad = absurd bad
of_rows v names rows (BadTerm n) shape bad = (names, rows, shape, bad)
of_rows v names rows Memory shape bad = tt

pub returns-in_err-rows-clause-reading : goal.returns-in_err-rows-clause-reading
returns-in_err-rows-clause-reading c =
    let v = view c.args.value.now in
    let values = map view c.as_slice.result.now in
    let rows = map view c.as_slice-4.result.now in
    let names = c.in-Some-2.vars in
    let named : (values ≡ map text_value names) × ((q : List ℕ) → has_text c.in-Some-2.names q ≡ is_name names q) =
    subst (λ o. MatchOption o ((names : List (List ℕ)) → values ≡ map text_value names → EachOnce names → ⊥) (λ x. (values ≡ map text_value x.0) × ((q : List ℕ) → has_text x.1 q ≡ is_name x.0 q)))
    c.in-Some-2.is c.in_ok-vars.ensures in
    let found : get_within (codes "head") (codes "vars") v ≡ Some (array (items_of (map text_value names))) =
    list_at (codes "head") (codes "vars") v c.list_within.result c.in-Some.vars c.list_within.ensures c.in-Some.is
    ∙ ap (λ vs. Some (array (items_of (map view vs)))) (sym c.as_slice.ensures.value) ∙ ap (λ ds. Some (array (items_of ds))) named.0 in
    let listed : get_within (codes "results") (codes "bindings") v ≡ Some (array (items_of rows)) =
    list_at (codes "results") (codes "bindings") v c.list_within-2.result c.in-Some-list_within.bindings c.list_within-2.ensures c.in-Some-list_within.is
    ∙ ap (λ vs. Some (array (items_of (map view vs)))) (sym c.as_slice-4.ensures.value) in
    let once : EachOnce names = c.as_slice-3.ensures.distinct in
    let known : list_all (is_row names) rows ≡ true =
    ap (list_all (is_row names)) (ap (map view) (c.as_slice-4.ensures.value ∙ sym c.as_slice-2.ensures.value))
    ∙ sym (same_are_rows (has_text c.in-Some-2.names) names (map view c.as_slice-2.result.now) named.1) ∙ sym c.are_rows.ensures ∙ c.if-not-are_rows.false in
    let shape : HasShape v names rows = ((found, once), (listed, known)) in
    passed_on v c.from_residual-in_err-rows.result c.in_err-rows.field-0.0 c.from_residual-in_err-rows.ensures.1
    (of_rows v names rows c.in_err-rows.field-0.0 shape c.in_err-rows.ensures.reading)

pub returns-clause-reading : goal.returns-clause-reading
returns-clause-reading c =
    let v = view c.args.value.now in
    let values = map view c.as_slice.result.now in
    let rows = map view c.as_slice-4.result.now in
    let names = c.in-Some-2.vars in
    let named : (values ≡ map text_value names) × ((q : List ℕ) → has_text c.in-Some-2.names q ≡ is_name names q) =
    subst (λ o. MatchOption o ((names : List (List ℕ)) → values ≡ map text_value names → EachOnce names → ⊥) (λ x. (values ≡ map text_value x.0) × ((q : List ℕ) → has_text x.1 q ≡ is_name x.0 q)))
    c.in-Some-2.is c.in_ok-vars.ensures in
    let found : get_within (codes "head") (codes "vars") v ≡ Some (array (items_of (map text_value names))) =
    list_at (codes "head") (codes "vars") v c.list_within.result c.in-Some.vars c.list_within.ensures c.in-Some.is
    ∙ ap (λ vs. Some (array (items_of (map view vs)))) (sym c.as_slice.ensures.value) ∙ ap (λ ds. Some (array (items_of ds))) named.0 in
    let listed : get_within (codes "results") (codes "bindings") v ≡ Some (array (items_of rows)) =
    list_at (codes "results") (codes "bindings") v c.list_within-2.result c.in-Some-list_within.bindings c.list_within-2.ensures c.in-Some-list_within.is
    ∙ ap (λ vs. Some (array (items_of (map view vs)))) (sym c.as_slice-4.ensures.value) in
    let once : EachOnce names = c.as_slice-3.ensures.distinct in
    let known : list_all (is_row names) rows ≡ true =
    ap (list_all (is_row names)) (ap (map view) (c.as_slice-4.ensures.value ∙ sym c.as_slice-2.ensures.value))
    ∙ sym (same_are_rows (has_text c.in-Some-2.names) names (map view c.as_slice-2.result.now) named.1) ∙ sym c.are_rows.ensures ∙ c.if-not-are_rows.false in
    let shape : HasShape v names rows = ((found, once), (listed, known)) in
    (rows, shape, subst (λ ns. AreRowValues ns rows c.in_ok-rows.rows) c.as_slice-3.ensures.value c.in_ok-rows.ensures.reading)

passed_on_number : (r : Result Table ResultFault) (e : ResultFault) → IsErrAnd r (λ f. f ≡ e) → IsNumbered e → IfErr r (λ f. IsNumbered f)
passed_on_number (Ok t) e is h = tt
passed_on_number (Err f) e is h = subst IsNumbered (sym is) h

pub returns-in_err-rows-clause-numbered : goal.returns-in_err-rows-clause-numbered
returns-in_err-rows-clause-numbered c = passed_on_number c.from_residual-in_err-rows.result c.in_err-rows.field-0.0 c.from_residual-in_err-rows.ensures.1 c.in_err-rows.ensures.numbered
