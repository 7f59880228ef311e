use Rattle.std.proofs.Common.{◌≡◌, ◌++◌, drop, map}
use Rattle.serde_json.specs.Data.{object}
use Rattle.results_json.specs.Columns.{list_tokens, bound, named}
use Rattle.results_json.proofs.writer.put_rows.Given as goal

abbrev pub invariant-loop-row : goal.invariant-loop-row
invariant-loop-row l =
    (l.out.before ≡ l.initial.out.before) × (l.out.tokens ++ list_tokens (map (λ row. object (bound (named l.columns.entries) row)) (drop l.row-index l.rows))
    ≡ l.initial.out.tokens ++ list_tokens (map (λ row. object (bound (named l.columns.entries) row)) l.rows))
