use Rattle.std.proofs.Common.{◌≡◌, ◌++◌}
use Rattle.results_json.specs.Columns.{open_tokens, bound, named}
use Rattle.results_json.proofs.writer.put_cells.Given as goal

abbrev pub invariant-loop-name : goal.invariant-loop-name
invariant-loop-name l =
    (l.out.before ≡ l.initial.out.before) × (l.out.tokens ++ open_tokens (bound (named l.name-iterator) l.row) ≡ l.initial.out.tokens ++ open_tokens (bound (named l.columns.entries) l.row))
