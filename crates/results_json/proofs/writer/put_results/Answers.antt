use Rattle.std.proofs.Common.{codes, map}
use Rattle.std.proofs.lemmas.Result.{on_ok_weaker}
use Rattle.serde_json.specs.Data.{object}
use Rattle.results_json.specs.Columns.{bound, named}
use Rattle.results_json.proofs.TokenLemmas.{four_written, two_written, nested_written}
use Rattle.results_json.proofs.writer.put_results.Goals as goal

pub returns-clause-tokens : goal.returns-clause-tokens
returns-clause-tokens c =
    on_ok_weaker c.end_object.result (λ e.
    nested_written (codes "results") (codes "bindings") (map (λ row. object (bound (named c.args.columns.now.entries) row)) c.args.rows.now) c.args.out.now.tokens c.begin_array.new.self.tokens c.put_rows.new.out.tokens c.end_object.new.self.tokens
    (four_written c.args.out.now.tokens c.key.new.self.tokens c.begin_object.new.self.tokens c.key-2.new.self.tokens c.begin_array.new.self.tokens _ _ _ _
    c.in_ok-key.ensures.ok c.in_ok-begin_object.ensures.ok c.in_ok-key-2.ensures.ok c.in_ok-begin_array.ensures.ok)
    c.in_ok-put_rows.ensures.tokens
    (two_written c.put_rows.new.out.tokens c.end_array.new.self.tokens c.end_object.new.self.tokens _ _ c.in_ok-end_array.ensures.ok e)) c.end_object.ensures.ok
