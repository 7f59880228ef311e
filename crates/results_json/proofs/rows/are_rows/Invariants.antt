use Rattle.std.proofs.Common.{◌≡◌, drop, map}
use Rattle.std.specs.List.{list_all}
use Rattle.serde_json.specs.Find.{as_object}
use Rattle.serde_json.specs.View.{view}
use Rattle.results_json.specs.Tables.{if_cells}
use Rattle.results_json.specs.Columns.{has_text}
use Rattle.results_json.proofs.rows.are_rows.Given as goal

abbrev pub invariant-loop-value : goal.invariant-loop-value
invariant-loop-value l =
    list_all (λ d. if_cells (has_text l.names) (as_object d)) (map view (drop l.value-index l.values))
    ≡ list_all (λ d. if_cells (has_text l.names) (as_object d)) (map view l.values)
