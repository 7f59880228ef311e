use Rattle.std.proofs.Common.{◌≡◌}
use Rattle.serde_json.specs.View.{members_view}
use Rattle.results_json.specs.Tables.{are_cells}
use Rattle.results_json.specs.Columns.{has_text}
use Rattle.results_json.proofs.rows.are_cells.Given as goal

abbrev pub invariant-loop-key : goal.invariant-loop-key
invariant-loop-key l = are_cells (has_text l.names) (members_view l.key-iterator) ≡ are_cells (has_text l.names) (members_view l.members.entries)
