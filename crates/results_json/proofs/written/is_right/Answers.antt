use Rattle.std.proofs.Common.{sym, ◌∙◌, ap, length}
use Rattle.std.specs.List.{list_all}
use Rattle.rdf_term.specs.Validity.{is_part}
use Rattle.results_json.specs.Written.{is_right_row}
use Rattle.results_json.proofs.WrittenLemmas.{right_table}
use Rattle.results_json.proofs.written.is_right.Goals as goal

pub returns-then-are_right_names : goal.returns-then-are_right_names
returns-then-are_right_names c = λ right.
    let t = c.args.table.now in
    let names = sym c.as_slice-names.ensures.value in
    right_table t c.as_slice-names.ensures.distinct
    (ap (list_all is_part) names ∙ sym c.are_right_names.ensures ∙ c.if-are_right_names.true)
    (ap (λ vars. list_all (is_right_row (length vars)) t.rows) names ∙ ap (list_all (is_right_row (length c.as_slice-names.result.now))) (sym c.as_slice.ensures)
    ∙ sym c.are_right_rows.ensures ∙ right)
