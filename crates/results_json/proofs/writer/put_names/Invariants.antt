use Rattle.std.proofs.Common.{◌≡◌, ◌++◌, drop, map}
use Rattle.results_json.specs.Tables.{text_value}
use Rattle.results_json.specs.Columns.{list_tokens}
use Rattle.results_json.proofs.writer.put_names.Given as goal

abbrev pub invariant-loop-name : goal.invariant-loop-name
invariant-loop-name l =
    (l.out.before ≡ l.initial.out.before) × (l.out.tokens ++ list_tokens (map text_value (drop l.name-index l.names)) ≡ l.initial.out.tokens ++ list_tokens (map text_value l.names))
