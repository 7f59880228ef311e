use Rattle.std.proofs.Common.{take}
use Rattle.serde_json.specs.View.{view}
use Rattle.results_json.specs.Tables.{IsRowValue}
use Rattle.results_json.proofs.rows.row_of.Given as goal

abbrev pub invariant-loop-name : goal.invariant-loop-name
invariant-loop-name l = IsRowValue (take l.name-index l.names) (view l.value) l.row
