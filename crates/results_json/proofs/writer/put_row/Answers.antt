use Rattle.std.proofs.lemmas.Result.{on_ok_weaker}
use Rattle.results_json.specs.Columns.{bound, named}
use Rattle.results_json.proofs.TokenLemmas.{object_written}
use Rattle.results_json.proofs.writer.put_row.Goals as goal

pub returns-clause-tokens : goal.returns-clause-tokens
returns-clause-tokens c =
    on_ok_weaker c.end_object.result (λ e.
    object_written (bound (named c.args.columns.now.entries) c.args.row.now) c.args.out.now.tokens c.begin_object.new.self.tokens c.put_cells.new.out.tokens c.end_object.new.self.tokens
    c.in_ok-begin_object.ensures.ok c.in_ok-put_cells.ensures.tokens e) c.end_object.ensures.ok
