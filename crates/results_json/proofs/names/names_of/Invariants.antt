use Rattle.std.proofs.Common.{◌≡◌, ℕ, List, take, map}
use Rattle.serde_json.specs.View.{view}
use Rattle.results_json.specs.Tables.{text_value, is_name}
use Rattle.results_json.specs.Columns.{has_text}
use Rattle.results_json.proofs.names.names_of.Given as goal

abbrev pub invariant-loop-var : goal.invariant-loop-var
invariant-loop-var l = (take l.var-index (map view l.vars) ≡ map text_value l.names) × ((q : List ℕ) → has_text l.set q ≡ is_name l.names q)
