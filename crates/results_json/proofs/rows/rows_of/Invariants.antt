use Rattle.std.proofs.Common.{take, map}
use Rattle.serde_json.specs.View.{view}
use Rattle.results_json.specs.Tables.{AreRowValues}
use Rattle.results_json.proofs.rows.rows_of.Given as goal

abbrev pub invariant-loop-number : goal.invariant-loop-number
invariant-loop-number l = AreRowValues l.names (take l.number (map view l.values)) l.rows
